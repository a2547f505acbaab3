-- Byte strings with a generator's keystream added, in any order of bits.
use Rattle.std.specs.Prelude.{Bool, List, ℕ, ◌*◌, length}
use Rattle.bits.specs.Times.{times}
use Rattle.generators.specs.Algebra.{single}
use Rattle.generators.specs.Functions.{Functions}
use Rattle.generators.specs.Generator.{Generator, plain, every}

-- The bits of a byte string flipped by the keystream, every p-th pre-output.
abbrev pub added : Functions single → (flip : List ℕ → List Bool → List ℕ) → (p : ℕ) → Generator Bool → List ℕ → List ℕ
added by flip p g s = flip s (every by p (8 * length s) g)

-- The generator after the clocks of n bytes.
abbrev pub clocked : Functions single → (p : ℕ) → ℕ → Generator Bool → Generator Bool
clocked by p n g = times (p * (8 * n)) (plain by) g
