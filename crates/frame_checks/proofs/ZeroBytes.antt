-- Strings of zero bytes, byte by byte and whole.
-- Assumes nothing.
use mathlib.Core.Path.{◌≡◌, refl, sym, ap, ap₂, ◌∙◌}
use mathlib.Core.Bool.{Bool, true, false, true≢false, not, ◌&&◌, ◌||◌}
use mathlib.Core.List.{List, [], ◌∷◌, ◌++◌}
use Prim.Native.Nat.{ℕ, zero, suc}
use borrow.Author.Tests.{eqb-true}
use lib.Dec.{eqb}
use lib.ListN.{length, drop, replicate}
use lib.Seq.{drop-nil}
use Rattle.std.specs.List.{list_any}
use Rattle.frame_checks.specs.Layout.{zero_bytes}

-- Looked for one byte after the other.
pub any_lem : (s : List ℕ) → list_any (λ b. not (eqb b 0)) s ≡ not (zero_bytes s)
unfolding zero_bytes
any_lem [] = refl
any_lem (b ∷ s) = go (eqb b 0) (any_lem s)
  where
    go : (z : Bool) → list_any (λ b. not (eqb b 0)) s ≡ not (zero_bytes s) → (not z || list_any (λ b. not (eqb b 0)) s) ≡ not (z && zero_bytes s)
    go true rest = rest
    go false rest = refl

-- They are zeros as many as there are bytes.
pub zero_bytes_lem : (s : List ℕ) → zero_bytes s ≡ true → s ≡ replicate (length s) 0
unfolding zero_bytes
zero_bytes_lem [] e = refl
zero_bytes_lem (b ∷ s) e = go (eqb b 0) refl e (zero_bytes_lem s)
  where
    go : (t : Bool) → eqb b 0 ≡ t → (t && zero_bytes s) ≡ true → (zero_bytes s ≡ true → s ≡ replicate (length s) 0) → b ∷ s ≡ replicate (length (b ∷ s)) 0
    go true h z rest = ap₂ (λ (c : ℕ) (r : List ℕ). c ∷ r) (eqb-true b 0 h) (rest z)
    go false h z rest = absurd (true≢false (sym z))

pub zeros_are : (n : ℕ) → zero_bytes (replicate n 0) ≡ true
unfolding zero_bytes
zeros_are zero = refl
zeros_are (suc n) = zeros_are n

-- What lies behind a place of zeros is zeros, and zeros behind a string don't matter.
zero-drop : (k : ℕ) (s : List ℕ) → zero_bytes s ≡ true → zero_bytes (drop k s) ≡ true
unfolding zero_bytes
zero-drop zero s z = z
zero-drop (suc k) [] z = refl
zero-drop (suc k) (b ∷ s) z = go (eqb b 0) z (zero-drop k s)
  where
    go : (t : Bool) → (t && zero_bytes s) ≡ true → (zero_bytes s ≡ true → zero_bytes (drop k s) ≡ true) → zero_bytes (drop k s) ≡ true
    go true z rest = rest z
    go false z rest = absurd (true≢false (sym z))

pub zeros-behind : (k : ℕ) (s t : List ℕ) → zero_bytes t ≡ true → zero_bytes (drop k (s ++ t)) ≡ zero_bytes (drop k s)
unfolding zero_bytes
zeros-behind k [] t z = zero-drop k t z ∙ sym (ap zero_bytes (drop-nil k))
zeros-behind zero (b ∷ s) t z = ap (λ (r : Bool). eqb b 0 && r) (zeros-behind zero s t z)
zeros-behind (suc k) (b ∷ s) t z = zeros-behind k s t z
