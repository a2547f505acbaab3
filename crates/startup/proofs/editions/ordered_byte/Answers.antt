-- `startup::editions::ordered_byte` meets its contract.
use Rattle.startup.proofs.Ordered.{word_byte}
use Rattle.startup.proofs.editions.ordered_byte.Goals as goal

pub returns : goal.returns
returns c =
    let a = c.args in
    word_byte a.edition a.b c.ordered.result (rw c.wide.ensures at c.ordered.ensures)
