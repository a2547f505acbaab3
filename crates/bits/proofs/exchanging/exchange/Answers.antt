-- `bits::exchanging::exchange` meets its contract.
use Rattle.bits.proofs.Exchange.{exchanged}
use Rattle.bits.proofs.exchanging.exchange.Goals as goal

pub returns : goal.returns
returns c = exchanged c.args.x c.args.by c.args.mask c.requires.1 c.requires.2
