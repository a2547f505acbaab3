-- `grainv1::starting::start` meets its contract.
use mathlib.Core.Path.{◌≡◌}
use Prim.Native.Nat.{◌*◌}
use Rattle.bits.specs.Times.{times}
use Rattle.generators.specs.Generator.{fed_back}
use Rattle.grainv1.specs.Functions.{grainv1}
use Rattle.grainv1.specs.Words.{generator_of}
use Rattle.grainv1.proofs.starting.start.Given as goal

abbrev pub invariant-loop : goal.invariant-loop
invariant-loop l = generator_of l.now ≡ times (l.counter * 16) (fed_back grainv1) (generator_of l.initial.now)
