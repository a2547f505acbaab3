-- The registers in words of 64 bits.
use Rattle.std.specs.Prelude.{Bool, cond, ◌++◌, ℕ, ◌-◌, ◌/◌, ◌^◌, ltb}
use Rattle.bits.specs.Bytes.{word}
use Rattle.generators.specs.Generator.{Generator}
use Rattle.preoutput.specs.declared.Registers.{Registers}

-- The generator whose registers the words hold.
unfoldable pub generator_of : Registers → Generator Bool
generator_of r = record { lfsr = word 64 r.lfsr0 ++ word 64 r.lfsr1; nfsr = word 64 r.nfsr0 ++ word 64 r.nfsr1 }

-- A word of a register moved so that place k is its lowest bit; past the last place, 0.
abbrev pub tap : (word0 word1 : ℕ) → ℕ → ℕ
tap word0 word1 k = cond (ltb k 64) (word0 / 2 ^ (63 - k)) (cond (ltb k 128) (word1 / 2 ^ (127 - k)) 0)
