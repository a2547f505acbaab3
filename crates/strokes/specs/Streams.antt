-- The pre-outputs of plain running, keystream and authentication bits by turns (source document 000, section 2.3).
use Rattle.std.specs.Prelude.{◌≡◌, Bool, ◌++◌, ℕ, ◌-◌, ◌*◌}
use Rattle.bits.specs.Bytes.{word}
use Rattle.bits.specs.Strings.{zeros, evens, odds}
use Rattle.bits.specs.Times.{times}
use Rattle.generators.specs.Generator.{Generator, plain, every}
use Rattle.preoutput.specs.declared.Registers.{Registers}
use Rattle.preoutput.specs.declared.Run.{Run}
use Rattle.strokes.specs.declared.streams.Streamed.{Streamed}
use Rattle.strokes.specs.declared.streams.Taken.{Taken}
use Rattle.strokes.specs.declared.streams.Taken.TheVariants.{Every, EverySecond}
use Rattle.preoutput.specs.Functions.{grain128}
use Rattle.preoutput.specs.Words.{generator_of}

-- The pre-outputs in turn, parted.
pub record Parted (r : Run) (s : Streamed) : Type 0 where
  pub registers : s.registers ≡ r.registers
  pub keystream : word 64 s.keystream ≡ zeros 32 ++ evens (word 64 r.outputs)
  pub authentication : word 64 s.authentication ≡ zeros 32 ++ odds (word 64 r.outputs)

-- Of how many pre-outputs one is a keystream bit.
abbrev pub spacing : Taken → ℕ
spacing Every = 1
spacing EverySecond = 2

-- After the clocks of n string bits: the generator, and the n keystream bits, every p-th pre-output. The bits of a word above its n are zeros.
pub record Keystreams (p n : ℕ) (g : Generator Bool) (after : Registers) (k : ℕ) : Type 0 where
  pub generator : generator_of after ≡ times (p * n) (plain grain128) g
  pub keystream : word 64 k ≡ zeros (64 - n) ++ every grain128 p n g

-- Where every second pre-output is one, also the n authentication bits, the pre-outputs between.
pub record Streams (n : ℕ) (g : Generator Bool) (s : Streamed) : Type 0 where
  pub keystreams : Keystreams 2 n g s.registers s.keystream
  pub authentication : word 64 s.authentication ≡ zeros (64 - n) ++ every grain128 2 n (plain grain128 g)
