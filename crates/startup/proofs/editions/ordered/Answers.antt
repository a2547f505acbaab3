-- `startup::editions::ordered` meets its contract.
use Rattle.startup.proofs.Ordered.{orders_first, orders_second}
use Rattle.startup.proofs.editions.ordered.Goals as goal

pub returns-in-First : goal.returns-in-First
returns-in-First c = rw c.in-First.is (orders_first c.args.w)

pub returns-in-Second : goal.returns-in-Second
returns-in-Second c =
    rw c.in-Second.is (orders_second c.args.w c.turn.result c.turn.ensures)
