-- Every second place of a string: how many there are, and those of a string behind zeros.
-- Assumes nothing.
use mathlib.Core.Path.{◌≡◌, refl, ap, ◌∙◌}
use mathlib.Core.Bool.{Bool, false}
use mathlib.Core.List.{List, [], ◌∷◌, ◌++◌}
use Prim.Native.Nat.{ℕ, zero, suc, ◌+◌, ◌*◌, ◌/◌}
use native.Mathlib.Omega.{arith}
use lib.ListN.{length}
use Rattle.bits.specs.Strings.{zeros, evens, odds}

pub length-evens : {A : Type 0} (s : List A) → length (evens s) ≡ (length s + 1) / 2
unfolding evens
length-evens [] = refl
length-evens (a ∷ []) = refl
length-evens (a ∷ b ∷ s) = omega (arith, length-evens s)

evens-cons : {A : Type 0} (a : A) (s : List A) → evens (a ∷ s) ≡ a ∷ odds s
unfolding evens
evens-cons a [] = refl
evens-cons a (b ∷ s) = refl

two_more : (n : ℕ) (s : List Bool) → zeros (2 * suc n) ++ s ≡ false ∷ false ∷ (zeros (2 * n) ++ s)
two_more n s =
    let more : 2 * suc n ≡ suc (suc (2 * n)) = omega arith in
    ap (λ (k : ℕ). zeros k ++ s) more

pub evens-zeros : (n : ℕ) (s : List Bool) → evens (zeros (2 * n) ++ s) ≡ zeros n ++ evens s
unfolding evens
evens-zeros zero s = refl
evens-zeros (suc n) s = ap evens (two_more n s) ∙ ap (λ (r : List Bool). false ∷ r) (evens-zeros n s)

pub odds-zeros : (n : ℕ) (s : List Bool) → odds (zeros (2 * n) ++ s) ≡ zeros n ++ odds s
odds-zeros zero s = refl
odds-zeros (suc n) s = ap odds (two_more n s) ∙ evens-cons false (zeros (2 * n) ++ s) ∙ ap (λ (r : List Bool). false ∷ r) (odds-zeros n s)
