-- `captures::entries::offset` meets its contract.
use Rattle.std.proofs.Common.{arith}
use Rattle.captures.proofs.Chunks.{number_read}
use Rattle.captures.proofs.entries.offset.Goals as goal

pub returns : goal.returns
returns c = number_read 4 4 c.args.e.now c.number.result (omega arith) c.number.ensures
