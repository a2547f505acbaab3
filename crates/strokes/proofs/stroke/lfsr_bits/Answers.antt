-- `strokes::stroke::lfsr_bits` meets its contract.
use Rattle.strokes.proofs.WindowBits.{lfsr_bits_listed}
use Rattle.strokes.proofs.stroke.lfsr_bits.Goals as goal

pub returns : goal.returns
returns c = rw c.linear.ensures (lfsr_bits_listed c.args.g c.args.added c.of.ensures)
