-- `bits::shift_in` meets its contract.
use Rattle.bits.proofs.Word.{word-shift}
use Rattle.bits.proofs.shift_in.Goals as goal

pub returns : goal.returns
returns c = word-shift 63 c.args.places c.args.new
