-- A clock keeps the sizes of the registers.
-- Assumes nothing.
use Prim.Native.Nat.{ℕ, ◌<◌}
use Rattle.bits.proofs.Shift.{length_shift}
use Rattle.generators.specs.Algebra.{Algebra}
use Rattle.generators.specs.Functions.{Functions}
use Rattle.generators.specs.Generator.{Generator, clock, Sized}

module _ {A : Type 0} {over : Algebra A} (by : Functions over) where
  pub clock-sized : (n : ℕ) (g : Generator A) (x z : A) → 0 < n → Sized n g → Sized n (clock by g x z)
  unfolding clock
  clock-sized n g x z pos sized = record { lfsr = length_shift n g.lfsr _ pos sized.lfsr; nfsr = length_shift n g.nfsr _ pos sized.nfsr }
