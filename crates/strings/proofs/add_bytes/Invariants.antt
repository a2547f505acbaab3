-- `strings::add_bytes` meets its contract.
use lib.ListN.{take}
use Rattle.preoutput.specs.Words.{generator_of}
use Rattle.strokes.specs.Streams.{spacing}
use Rattle.strings.specs.Strings.{Adds}
use Rattle.strings.proofs.add_bytes.Given as goal

abbrev pub invariant-loop-i : goal.invariant-loop-i
invariant-loop-i l = Adds l.edition (spacing l.taken) (generator_of l.initial.now) (take l.i l.s) l.initial.out l.out l.now
