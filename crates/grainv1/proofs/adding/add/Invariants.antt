-- `grainv1::adding::add` meets its contract.
use Rattle.std.specs.Prelude.{◌≡◌}
use Rattle.std.specs.Iterator.Adapters.{enumerate_source, enumerate_count}
use Rattle.std.specs.Slice.Iter.{chunks_rest, chunks_size}
use Rattle.generators.proofs.Turns.{Adds, left}
use Rattle.grainv1.specs.Functions.{grainv1}
use Rattle.grainv1.specs.Words.{generator_of}
use Rattle.grainv1.proofs.adding.add.Given as goal

abbrev pub invariant-loop-i : goal.invariant-loop-i
invariant-loop-i l = record {
  size : chunks_size (enumerate_source l.i-iterator) ≡ 8;
  rest : chunks_rest (enumerate_source l.i-iterator) ≡ left l.s (enumerate_count l.i-iterator);
  adds : Adds grainv1 (generator_of l.initial.now) l.s l.initial.out l.out (generator_of l.now) (enumerate_count l.i-iterator);
}
