-- Feedback polynomials as they are printed. A polynomial is a list of its monomials but the 1, a monomial the list of its exponents.
use mathlib.Core.List.{List, [], ◌∷◌, map, foldl}
use Rattle.std.specs.Prelude.{ℕ, ◌-◌}
use Rattle.generators.specs.Algebra.{Algebra}

module _ {A : Type 0} (over : Algebra A) where
  abbrev pub joined : (A → A → A) → List A → A
  joined op [] = over.zero
  joined op (x ∷ xs) = foldl op x xs

  -- Of a register of n places, x to the e stands for place n - e.
  abbrev pub monomial : (n : ℕ) → (ℕ → A) → List ℕ → A
  monomial n r m = joined over.product (map (λ e. r (n - e)) m)

  abbrev pub feedback : (n : ℕ) → List (List ℕ) → (ℕ → A) → A
  feedback n p r = joined over.sum (map (monomial n r) p)
