-- The functions are those of the printed polynomials, of h of five variables and of the set A: all four by computation.
-- Assumes nothing.
use mathlib.Core.Path.{refl}
use Prim.Native.Nat.{ℕ}
use Rattle.generators.specs.Algebra.{Algebra}
use Rattle.grainv1.specs.Published.{Published}

pub published : {A : Type 0} (over : Algebra A) (s b x : ℕ → A) → Published over s b x
published over s b x = record { lfsr = refl; nfsr = refl; filter = refl; output = refl }
