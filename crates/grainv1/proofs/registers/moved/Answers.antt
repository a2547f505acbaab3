-- `grainv1::registers::moved` meets its contract.
use Rattle.grainv1.proofs.Words.{moved_word}
use Rattle.grainv1.proofs.registers.moved.Goals as goal

pub returns : goal.returns
returns c = moved_word c.args.places c.args.behind
