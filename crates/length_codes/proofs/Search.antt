-- The place of the first length of a list that holds n; the lengths of the table rise.
-- Assumes nothing.
use mathlib.Core.Path.{◌≡◌, refl, sym, ap, ◌∙◌}
use mathlib.Core.Bool.{Bool, cond}
use mathlib.Core.List.{List, [], ◌∷◌}
use Prim.Native.Nat.{ℕ, zero, suc, suc-le-suc, ◌+◌, ◌≤◌, ◌<◌}
use native.Mathlib.Nat.{not-suc-le-zero, le_of_suc-le-suc}
use native.Mathlib.Numerals.{add-one}
use native.Mathlib.Omega.{arith}
use borrow.Author.Tests.{le-leb, lt-leb}
use lib.ListN.{length, get_or}
use Rattle.std.specs.List.Sorted.{IsNonDecreasing}
use Rattle.std.proofs.lemmas.Grind.{get_or_default_zero}
use Rattle.std.proofs.lemmas.List.Sorted.{IsNonDecreasingBy-from_all_adjacent}
use Rattle.length_codes.specs.LengthCodes.{coded_lengths, coded_length, first_holding}
use Rattle.length_codes.proofs.Rule.{table}

-- Each length before it is less than n, and its own is not.
pub first_at : (ls : List ℕ) (n i : ℕ) → i ≤ length ls → ((k : ℕ) → k < i → get_or ls k 0 < n) → (i < length ls → n ≤ get_or ls i 0) → i ≡ first_holding ls n
unfolding first_holding
first_at [] n zero inside before here = refl
first_at [] n (suc i) inside before here = absurd (not-suc-le-zero inside)
first_at (l ∷ ls) n zero inside before here = sym (ap (λ (b : Bool). cond b 0 (suc (first_holding ls n))) (le-leb n l (here (omega arith))))
first_at (l ∷ ls) n (suc i) inside before here =
    ap suc (first_at ls n i (le_of_suc-le-suc inside) (λ k h. before (suc k) (suc-le-suc h)) (λ h. here (suc-le-suc h)))
    ∙ sym (ap (λ (b : Bool). cond b 0 (suc (first_holding ls n))) (lt-leb n l (before zero (omega arith))))

pub rising : IsNonDecreasing coded_lengths
unfolding coded_length coded_lengths
rising = IsNonDecreasingBy-from_all_adjacent (λ n. n) coded_lengths (λ k d h. rw (get_or_default_zero coded_lengths k d (omega arith), get_or_default_zero coded_lengths (k + 1) d h, add-one) (omega (arith, table.rises k (omega arith))))
