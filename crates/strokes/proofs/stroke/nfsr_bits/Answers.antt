-- `strokes::stroke::nfsr_bits` meets its contract.
use Rattle.strokes.proofs.WindowBits.{nfsr_bits_listed}
use Rattle.strokes.proofs.stroke.nfsr_bits.Goals as goal

pub returns : goal.returns
returns c = rw c.nonlinear.ensures (nfsr_bits_listed c.args.g c.args.added c.of.ensures)
