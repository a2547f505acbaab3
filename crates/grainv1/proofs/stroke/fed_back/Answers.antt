-- `grainv1::stroke::fed_back` meets its contract.
use mathlib.Core.Path.{◌∙◌}
use Rattle.grainv1.proofs.Strokes.{fed_back-words}
use Rattle.grainv1.proofs.stroke.fed_back.Goals as goal

pub returns : goal.returns
returns c =
    c.stroke.ensures ∙ fed_back-words c.args.g c.outputs.result c.outputs.ensures
