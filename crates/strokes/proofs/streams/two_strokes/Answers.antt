-- `strokes::streams::two_strokes` meets its contract.
use Rattle.strokes.proofs.PlainStreams.{two_strokes}
use Rattle.strokes.proofs.streams.two_strokes.Goals as goal

pub returns : goal.returns
returns c =
    two_strokes c.args.g c.plain_stroke-half.result c.outputs.result c.outputs-2.result c.plain_stroke-half.ensures c.plain_stroke.ensures c.outputs.ensures c.outputs-2.ensures c.slide.ensures
