-- `grainv1::starting::start` meets its contract.
use mathlib.Core.Path.{◌≡◌, refl, ap, ◌∙◌}
use native.Mathlib.Omega.{arith}
use Rattle.bits.specs.Times.{times}
use Rattle.generators.specs.Generator.{fed_back}
use Rattle.grainv1.specs.Functions.{grainv1}
use Rattle.grainv1.proofs.StartUp.{started-words, fed_back_more}
use Rattle.grainv1.proofs.starting.start.Goals as goal

pub loop-init : goal.loop-init
unfolding times
loop-init c = refl

pub loop-preserved : goal.loop-preserved
loop-preserved c = c.fed_back-now.ensures ∙ ap (times 16 (fed_back grainv1)) c.loop.invariant ∙ fed_back_more c.loop.counter _

pub returns : goal.returns
returns c =
    let done : c.loop.counter ≡ 10 = omega arith in
    (rw done at c.loop.invariant) ∙ started-words c.args.key0 c.args.key1 c.args.nonce
