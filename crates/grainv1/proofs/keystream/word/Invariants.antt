-- `grainv1::keystream::word` meets its contract.
use mathlib.Core.Path.{◌≡◌}
use Prim.Native.Nat.{◌*◌}
use Rattle.grainv1.specs.Words.{running_of}
use Rattle.grainv1.proofs.Outputs.{ran}
use Rattle.grainv1.proofs.keystream.word.Given as goal

abbrev pub invariant-loop : goal.invariant-loop
invariant-loop l = running_of l.now ≡ ran (l.counter * 16) (running_of l.initial.now)
