-- The functions are those of the printed polynomials, of h of nine variables and of the set A: all four by computation.
-- Assumes nothing.
use mathlib.Core.Path.{refl}
use Prim.Native.Nat.{ℕ}
use Rattle.generators.specs.Algebra.{Algebra}
use Rattle.preoutput.specs.Published.{Published}

pub published : {A : Type 0} (over : Algebra A) (s b : ℕ → A) → Published over s b
published over s b = record { lfsr = refl; nfsr = refl; filter = refl; output = refl }
