-- Clocks one after the other, in words: the generator with the pre-outputs, and what is added to the new bits.
use Rattle.std.specs.Prelude.{◌≡◌, ◌++◌, ℕ, ◌+◌}
use Rattle.bits.specs.Bytes.{word}
use Rattle.generators.specs.Running.{Running, Added, adds}
use Rattle.preoutput.specs.declared.Run.{Run}
use Rattle.preoutput.specs.declared.Adding.{Adding}
use Rattle.preoutput.specs.Words.{generator_of}

unfoldable pub running_of : Run → Running
running_of r = record { generator = generator_of r.registers; outputs = word 64 r.outputs }

unfoldable pub to_lfsr : Adding → Added
to_lfsr a = adds a.fed (word 64 a.lfsr0 ++ word 64 a.lfsr1)

unfoldable pub to_nfsr : Adding → Added
to_nfsr a = adds a.fed (word 64 a.nfsr0 ++ word 64 a.nfsr1)

-- What is left to add after n clocks.
pub record Moves (n : ℕ) (a r : Adding) : Type 0 where
  pub lfsr : to_lfsr r ≡ λ i. to_lfsr a (n + i)
  pub nfsr : to_nfsr r ≡ λ i. to_nfsr a (n + i)
