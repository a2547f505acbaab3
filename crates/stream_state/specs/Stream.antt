-- A stream: the machine, which carries its edition, and what is counted (document 02, C-13 and C-20).
use Rattle.std.specs.Prelude.{ℕ, ◌+◌, ◌*◌, length}
use Rattle.lengths.specs.CodedLength.{coded_length}
use Rattle.machine.specs.Machine.{State}
use Rattle.machine.specs.Engine.{state_of}
use Rattle.startup.specs.Editions.{running_from}
use Rattle.stream_checks.specs.declared.counts.Counts.{Counts}
use Rattle.stream_state.specs.declared.Session.{Session}

pub record Stream : Type 0 where
  pub machine : State
  pub counts : Counts

-- The stream that the code holds in machine words.
unfoldable pub stream_of : Session → Stream
stream_of x = record { machine = state_of x.engine; counts = x.counts }

-- The string bits taken so far: those of the coded AD length at begin, eight for each byte of AD and message, the final 1 at finish.
unfoldable pub bits_taken : Counts → ℕ
bits_taken c = 8 * (length (coded_length c.announced) + c.ad + c.message) + c.phase

-- The clocks so far: those of start-up, and two for each string bit.
unfoldable pub clocks_so_far : Stream → ℕ
clocks_so_far x = running_from x.machine.edition + 2 * bits_taken x.counts
