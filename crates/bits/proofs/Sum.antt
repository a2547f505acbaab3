-- The sum of bits, and the sum of strings of bits: a commutative sum in which everything is its own inverse.
-- Assumes nothing.
use mathlib.Core.Path.{◌≡◌, refl, sym, ap, ap₂, ◌∙◌}
use mathlib.Core.Logic.{◌↔◌, ◌≢◌}
use mathlib.Core.Bool.{Bool, true, false, not, not-not, false≢true}
use mathlib.Core.List.{List, [], ◌∷◌, ◌++◌}
use Prim.Native.Nat.{ℕ, zero, suc, ◌-◌, ◌≤◌}
use native.Mathlib.Nat.{suc_inj, le_of_suc-le-suc, not-suc-le-zero, le_of_eq, suc-sub-suc, zero-sub, sub-zero}
use lib.ListN.{length, get_or, drop}
use Rattle.bits.specs.Bit.{◌⊻◌}
use Rattle.bits.specs.Strings.{◌⊞◌, zeros, Differ}

pub xor_false : (a : Bool) → a ⊻ false ≡ a
xor_false true = refl
xor_false false = refl

pub xor_self : (a : Bool) → a ⊻ a ≡ false
xor_self true = refl
xor_self false = refl

pub xor_comm : (a b : Bool) → a ⊻ b ≡ b ⊻ a
xor_comm true true = refl
xor_comm true false = refl
xor_comm false true = refl
xor_comm false false = refl

not-xor : (a b : Bool) → not a ⊻ b ≡ not (a ⊻ b)
not-xor true b = sym (not-not b)
not-xor false b = refl

pub xor_assoc : (a b c : Bool) → a ⊻ b ⊻ c ≡ a ⊻ (b ⊻ c)
xor_assoc true b c = not-xor b c
xor_assoc false b c = refl

pub sum-nil : (s : List Bool) → s ⊞ [] ≡ s
unfolding ◌⊞◌
sum-nil [] = refl
sum-nil (a ∷ s) = refl

pub sum_comm : (s t : List Bool) → s ⊞ t ≡ t ⊞ s
unfolding ◌⊞◌
sum_comm [] t = sym (sum-nil t)
sum_comm (a ∷ s) [] = refl
sum_comm (a ∷ s) (b ∷ t) = ap₂ ◌∷◌ (xor_comm a b) (sum_comm s t)

pub sum_assoc : (s t u : List Bool) → s ⊞ t ⊞ u ≡ s ⊞ (t ⊞ u)
unfolding ◌⊞◌
sum_assoc [] t u = refl
sum_assoc (a ∷ s) [] u = refl
sum_assoc (a ∷ s) (b ∷ t) [] = refl
sum_assoc (a ∷ s) (b ∷ t) (c ∷ u) = ap₂ ◌∷◌ (xor_assoc a b c) (sum_assoc s t u)

pub sum_left_comm : (s t u : List Bool) → s ⊞ (t ⊞ u) ≡ t ⊞ (s ⊞ u)
sum_left_comm s t u = sym (sum_assoc s t u) ∙ ap (λ (r : List Bool). r ⊞ u) (sum_comm s t) ∙ sum_assoc t s u

pub sum_self : (s : List Bool) → s ⊞ s ≡ zeros (length s)
unfolding ◌⊞◌
sum_self [] = refl
sum_self (a ∷ s) = ap₂ ◌∷◌ (xor_self a) (sum_self s)

pub sum_zeros : (s : List Bool) (n : ℕ) → n ≤ length s → s ⊞ zeros n ≡ s
unfolding ◌⊞◌
sum_zeros [] zero h = refl
sum_zeros [] (suc n) h = absurd (not-suc-le-zero h)
sum_zeros (a ∷ s) zero h = refl
sum_zeros (a ∷ s) (suc n) h = ap₂ ◌∷◌ (xor_false a) (sum_zeros s n (le_of_suc-le-suc h))

pub length-sum : (s t : List Bool) → length s ≡ length t → length (s ⊞ t) ≡ length s
unfolding ◌⊞◌
length-sum [] t e = sym e
length-sum (a ∷ s) [] e = refl
length-sum (a ∷ s) (b ∷ t) e = ap suc (length-sum s t (suc_inj e))

pub sum-append : (s t u v : List Bool) → length s ≡ length t → (s ++ u) ⊞ (t ++ v) ≡ (s ⊞ t) ++ (u ⊞ v)
unfolding ◌⊞◌
sum-append [] [] u v e = refl
sum-append [] (b ∷ t) u v e = absurd (not-suc-le-zero (le_of_eq (sym e)))
sum-append (a ∷ s) [] u v e = absurd (not-suc-le-zero (le_of_eq e))
sum-append (a ∷ s) (b ∷ t) u v e = ap (λ (r : List Bool). (a ⊻ b) ∷ r) (sum-append s t u v (suc_inj e))

-- The sum at one place.
pub get_or-sum : (s t : List Bool) (i : ℕ) → get_or (s ⊞ t) i false ≡ get_or s i false ⊻ get_or t i false
unfolding ◌⊞◌
get_or-sum [] t i = refl
get_or-sum (a ∷ s) [] i = sym (xor_false (get_or (a ∷ s) i false))
get_or-sum (a ∷ s) (b ∷ t) zero = refl
get_or-sum (a ∷ s) (b ∷ t) (suc i) = get_or-sum s t i

xor_differs : (a b : Bool) → (a ⊻ b ≡ true) ↔ (a ≢ b)
xor_differs true true = (λ e. absurd (false≢true e), λ d. absurd (d refl))
xor_differs true false = (λ e h. false≢true (sym h), λ d. refl)
xor_differs false true = (λ e h. false≢true h, λ d. refl)
xor_differs false false = (λ e. absurd (false≢true e), λ d. absurd (d refl))

pub differ : Differ
differ s t i = rw (get_or-sum s t i) (xor_differs (get_or s i false) (get_or t i false))

-- The last places of a sum, and of zeros.
pub drop-sum : (k : ℕ) (s t : List Bool) → drop k (s ⊞ t) ≡ drop k s ⊞ drop k t
unfolding ◌⊞◌
drop-sum zero s t = refl
drop-sum (suc k) [] t = refl
drop-sum (suc k) (a ∷ s) [] = sym (sum-nil (drop k s))
drop-sum (suc k) (a ∷ s) (b ∷ t) = drop-sum k s t

pub drop-zeros : (k n : ℕ) → drop k (zeros n) ≡ zeros (n - k)
drop-zeros zero n = ap zeros (sym (sub-zero n))
drop-zeros (suc k) zero = ap zeros (sym (zero-sub (suc k)))
drop-zeros (suc k) (suc n) = drop-zeros k n ∙ ap zeros (sym (suc-sub-suc n k))

-- A string added twice adds nothing.
pub sum_twice : (s t : List Bool) → length s ≤ length t → s ⊞ (s ⊞ t) ≡ t
sum_twice s t h = sym (sum_assoc s s t) ∙ ap (λ (r : List Bool). r ⊞ t) (sum_self s) ∙ sum_comm (zeros (length s)) t ∙ sum_zeros t (length s) h

-- What is added to both strings of a sum adds nothing.
pub sum_both : (s t u : List Bool) → length s ≤ length (t ⊞ u) → (s ⊞ t) ⊞ (s ⊞ u) ≡ t ⊞ u
sum_both s t u h = sum_assoc s t (s ⊞ u) ∙ ap (λ (r : List Bool). s ⊞ r) (sum_left_comm t s u) ∙ sum_twice s (t ⊞ u) h

-- What is added to one string on both sides of an equation may be left out.
pub sum_cancel : (s t u : List Bool) → length s ≤ length t → length s ≤ length u → s ⊞ t ≡ s ⊞ u → t ≡ u
sum_cancel s t u h k e = sym (sum_twice s t h) ∙ ap (λ (r : List Bool). s ⊞ r) e ∙ sum_twice s u k

-- Of two strings with a known sum, the first with flips added is the second exactly when the sum is the flips.
pub sum_agrees : (s t u f : List Bool) → length s ≡ length t → length s ≡ length f → s ⊞ t ≡ u → (s ⊞ f ≡ t) ↔ (u ≡ f)
sum_agrees s t u f lt lf sum = (
  λ e. sym sum ∙ ap (λ (r : List Bool). s ⊞ r) (sym e) ∙ sum_twice s f (le_of_eq lf),
  λ e. ap (λ (r : List Bool). s ⊞ r) (sym e ∙ sym sum) ∙ sum_twice s t (le_of_eq lt),
)
