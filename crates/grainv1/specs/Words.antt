-- The registers in words of 64 bits, and their windows.
use Rattle.std.specs.Prelude.{◌≡◌, Bool, cond, List, ◌++◌, ℕ, ◌-◌, ◌/◌, ◌^◌, ltb}
use Rattle.bits.specs.Bytes.{word}
use Rattle.bits.specs.Times.{times}
use Rattle.generators.specs.Generator.{Generator, plain, every}
use Rattle.generators.specs.Running.{Running}
use Rattle.grainv1.specs.declared.registers.Registers.{Registers}
use Rattle.grainv1.specs.declared.registers.Run.{Run}
use Rattle.grainv1.specs.Functions.{grainv1}

-- A register of 80 places.
abbrev pub register : (word0 word1 : ℕ) → List Bool
register word0 word1 = word 64 word0 ++ word 16 word1

unfoldable pub generator_of : Registers → Generator Bool
generator_of r = record { lfsr = register r.lfsr0 r.lfsr1; nfsr = register r.nfsr0 r.nfsr1 }

unfoldable pub running_of : Run → Running
running_of r = record { generator = generator_of r.registers; outputs = word 64 r.outputs }

-- After 64 plain clocks: the generator, and the outputs.
pub record Keystreams (g : Generator Bool) (r : Run) : Type 0 where
  pub generator : generator_of r.registers ≡ times 64 (plain grainv1) g
  pub outputs : word 64 r.outputs ≡ every grainv1 1 64 g

-- Sixteen places from place k on, at the lower end of a word, which is one that has places 0 to 63 or one that has places 16 to 79; k is 64 at most.
abbrev pub window : (word0 word16 : ℕ) → (k : ℕ) → ℕ
window word0 word16 k = cond (ltb k 16) (word0 / 2 ^ (48 - k)) (word16 / 2 ^ (64 - k))
