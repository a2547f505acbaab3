-- `startup::editions::warm` meets its contract.
use Rattle.startup.specs.Editions.{warmed}
use Rattle.startup.proofs.Filled.{warmed_second}
use Rattle.startup.proofs.editions.warm.Goals as goal

pub returns-in-First : goal.returns-in-First
unfolding warmed
returns-in-First c = rw c.in-First.is c.feed_back.ensures

pub returns-in-Second : goal.returns-in-Second
returns-in-Second c =
    rw c.in-Second.is (warmed_second c.args.loaded c.feed_back_with.result c.feed_back-fed_back.ensures c.feed_back_with.ensures)
