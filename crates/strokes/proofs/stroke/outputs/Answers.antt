-- `strokes::stroke::outputs` meets its contract.
use Rattle.strokes.proofs.WindowBits.{outputs-listed}
use Rattle.strokes.proofs.stroke.outputs.Goals as goal

pub returns : goal.returns
returns c = rw c.output.ensures (outputs-listed c.args.g c.of.ensures c.of-2.ensures)
