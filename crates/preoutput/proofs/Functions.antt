-- The functions over two algebras, and the places that they see.
-- Assumes nothing.
use mathlib.Core.Path.{◌≡◌, refl}
use Rattle.generators.specs.Algebra.{Algebra}
use Rattle.generators.specs.Functions.{Kept, Taps}
use Rattle.preoutput.specs.Functions.{functions, grain128}

-- What keeps sums and products keeps the functions.
pub functions_kept : {A B : Type 0} (over : Algebra A) (under : Algebra B) (f : A → B)
    → ((a b : A) → f (over.sum a b) ≡ under.sum (f a) (f b)) → ((a b : A) → f (over.product a b) ≡ under.product (f a) (f b))
    → Kept (functions over) (functions under) f
functions_kept over under f sums products = record { linear = λ s. simp sums; nonlinear = λ b. simp (sums, products); output = λ s b. simp (sums, products) }

-- No tap lies above place 96. For each function that is a matter of computing.
pub taps : Taps 97 grain128
taps = record { linear = λ s. refl; nonlinear = λ b. refl; output = λ s b. refl }
