-- The rule of the table, computed, and what it tells.
-- Assumes nothing.
use mathlib.Core.Path.{◌≡◌, refl}
use mathlib.Core.Bool.{Bool, true, and-eq-true_iff}
use Prim.Native.Nat.{ℕ, zero, suc, ◌≤◌, ◌<◌}
use native.Mathlib.Nat.{not-suc-le-zero}
use native.Mathlib.Decide.{ℕ_discrete}
use native.Mathlib.Omega.{arith}
use borrow.Author.Tests.{ltb-true, leb-true}
use lib.Dec.{leb, ltb}
use Rattle.length_codes.specs.LengthCodes.{coded_lengths, coded_length, first_holding, length_code}
use Rattle.length_codes.specs.Rule.{below, stepped, rises, within, smallest, rule, Ruled, Table}

pub ruled : Ruled
unfolding rule stepped rises within smallest below coded_length length_code first_holding coded_lengths
ruled = refl

pub below_at : (n : ℕ) (test : ℕ → Bool) → below n test ≡ true → (i : ℕ) → i < n → test i ≡ true
unfolding below
below_at zero test e i h = absurd (not-suc-le-zero h)
below_at (suc n) test e i h =
    elim (ℕ_discrete i n) [
      | yes same ↦ rw same ((and-eq-true_iff (test n) (below n test)).0 e).0
      | no other ↦ below_at n test ((and-eq-true_iff (test n) (below n test)).0 e).1 i (omega arith)
    ]

tests : (below 15 rises ≡ true) × ((below 16 within ≡ true) × (below 65 smallest ≡ true))
unfolding rule
tests =
    let first = (and-eq-true_iff (below 15 rises) _).0 ((and-eq-true_iff (below 16 stepped) _).0 ruled).1 in
    (first.0, (and-eq-true_iff (below 16 within) _).0 first.1)

rises-at : (code : ℕ) → code < 15 → coded_length code < coded_length (suc code)
unfolding rises
rises-at code h = ltb-true _ _ (below_at 15 rises tests.0 code h)

within-at : (code : ℕ) → code < 16 → coded_length code ≤ 64
unfolding within
within-at code h = leb-true _ _ (below_at 16 within tests.1.0 code h)

-- The three parts of the test at a length.
smallest-at : (n : ℕ) → n ≤ 64 → (ltb (length_code n) 16 ≡ true) × ((leb n (coded_length (length_code n)) ≡ true) × (below (length_code n) (λ code. ltb (coded_length code) n) ≡ true))
unfolding smallest
smallest-at n h =
    let first = (and-eq-true_iff (ltb (length_code n) 16) _).0 (below_at 65 smallest tests.1.1 n (omega arith)) in
    (first.0, (and-eq-true_iff (leb n (coded_length (length_code n))) _).0 first.1)

pub table : Table
table = record {
  rises = rises-at;
  within = within-at;
  is_code = λ n h. ltb-true _ _ (smallest-at n h).0;
  holds = λ n h. leb-true _ _ (smallest-at n h).1.0;
  smallest = λ n code h k. ltb-true _ _ (below_at (length_code n) (λ c. ltb (coded_length c) n) (smallest-at n h).1.1 code k);
}
