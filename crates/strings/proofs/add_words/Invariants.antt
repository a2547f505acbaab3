-- `strings::add_words` meets its contract.
use Prim.Native.Nat.{◌*◌}
use lib.ListN.{take}
use Rattle.std.specs.Iterator.Adapters.{enumerate_count}
use Rattle.preoutput.specs.Words.{generator_of}
use Rattle.strokes.specs.Streams.{spacing}
use Rattle.strings.specs.Strings.{Adds}
use Rattle.strings.proofs.Words.{Fours}
use Rattle.strings.proofs.add_words.Given as goal

abbrev pub invariant-loop-i : goal.invariant-loop-i
invariant-loop-i l = record {
  left : Fours l.s l.i-iterator;
  adds : Adds l.edition (spacing l.taken) (generator_of l.initial.now) (take (enumerate_count l.i-iterator * 4) l.s) l.initial.out l.out l.now;
}
