-- `grainv1::stroke::plain` meets its contract.
use mathlib.Core.Path.{◌∙◌}
use Rattle.grainv1.proofs.Strokes.{plain-words}
use Rattle.grainv1.proofs.stroke.plain.Goals as goal

pub returns : goal.returns
returns c = c.stroke.ensures ∙ plain-words c.args.g
