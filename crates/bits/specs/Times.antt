-- A function applied n times, and functions applied one after the other.
use Rattle.std.specs.Prelude.{List, [], ◌∷◌, ℕ, zero, suc}

unfoldable pub times {ℓ} : {A : Type ℓ} → ℕ → (A → A) → A → A
times zero f a = a
times (suc n) f a = times n f (f a)

unfoldable pub in_turn {ℓ} : {A : Type ℓ} → List (A → A) → A → A
in_turn [] a = a
in_turn (f ∷ fs) a = in_turn fs (f a)
