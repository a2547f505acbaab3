-- `grainv1::stroke::outputs` meets its contract.
use Rattle.grainv1.proofs.Strokes.{outputs-words}
use Rattle.grainv1.proofs.stroke.outputs.Goals as goal

pub returns : goal.returns
returns c =
    rw (c.output.ensures, c.of.ensures.0, c.of-2.ensures.0) (outputs-words c.args.g c.of.result.1 c.of-2.result.1 c.of.ensures.1 c.of-2.ensures.1)
