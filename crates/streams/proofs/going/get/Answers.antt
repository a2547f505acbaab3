-- `streams::going::get` meets its contract.
use Rattle.limits.specs.Limits.{message_limit}
use Rattle.streams.proofs.Settled.{got}
use Rattle.streams.proofs.going.get.Goals as goal

pub returns : goal.returns
unfolding message_limit
returns c = rw c.ok_or.ensures.value (got c.args.state.now c.read.result c.read.ensures)
