-- The two engines end in the same words.
use Rattle.std.specs.Prelude.{◌≡◌, ◌^◌, ◌<◌}
use Rattle.preoutput.specs.declared.Run.{Run}
use Rattle.preoutput.specs.Running.{running_of}

-- The words have 64 bits.
pub record InWords (r : Run) : Type 0 where
  pub lfsr0 : r.registers.lfsr0 < 2 ^ 64
  pub lfsr1 : r.registers.lfsr1 < 2 ^ 64
  pub nfsr0 : r.registers.nfsr0 < 2 ^ 64
  pub nfsr1 : r.registers.nfsr1 < 2 ^ 64
  pub outputs : r.outputs < 2 ^ 64

-- Words that hold the same registers and the same pre-outputs are the same words.
abbrev pub Agree : Type 0
Agree = (a b : Run) → InWords a → InWords b → running_of a ≡ running_of b → a ≡ b
