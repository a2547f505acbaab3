-- `grainv1::keystream::word` meets its contract.
use mathlib.Core.Path.{◌≡◌, refl, ap, ◌∙◌}
use native.Mathlib.Omega.{arith}
use Rattle.generators.specs.Running.{clocks}
use Rattle.grainv1.proofs.Outputs.{ran, ran_more, keystreams}
use Rattle.grainv1.proofs.keystream.word.Goals as goal

pub loop-init : goal.loop-init
unfolding clocks
loop-init c = refl

pub loop-preserved : goal.loop-preserved
loop-preserved c = c.next-now.ensures ∙ ap (ran 16) c.loop.invariant ∙ ran_more c.loop.counter _

pub returns : goal.returns
returns c =
    let done : c.loop.counter ≡ 4 = omega arith in
    keystreams c.args.g c.loop.now (rw done at c.loop.invariant)
