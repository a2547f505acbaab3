-- The machine in words.
use Rattle.std.specs.Prelude.{◌≡◌, Bool, cond, ℕ, ◌^◌, ◌<◌}
use Rattle.bits.specs.Bytes.{word}
use Rattle.preoutput.specs.Words.{generator_of}
use Rattle.authenticator.specs.Words.{authenticator_of}
use Rattle.machine.specs.declared.engine.Engine.{Engine}
use Rattle.machine.specs.Machine.{State, run, crypt}

unfoldable pub state_of : Engine → State
state_of e = record { edition = e.edition; generator = generator_of e.registers; authenticator = authenticator_of e.tagger }

-- n bits of the string, the lowest of x, with their keystream added as a number y of n bits, and the machine after the message's.
pub record Crypts (n : ℕ) (sealing : Bool) (st : State) (x y : ℕ) (after : Engine) : Type 0 where
  pub small : y < 2 ^ n
  pub crypted : word n y ≡ crypt sealing st (word n x)
  pub engine : state_of after ≡ run st (cond sealing (word n x) (word n y))
