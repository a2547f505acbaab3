-- `grainv1::keystream::next` meets its contract.
use Rattle.grainv1.proofs.Outputs.{next-words}
use Rattle.grainv1.proofs.keystream.next.Goals as goal

pub returns : goal.returns
returns c =
    next-words c.args.r _ c.outputs-y.result c.outputs-y.ensures c.plain.ensures c.moved.ensures
