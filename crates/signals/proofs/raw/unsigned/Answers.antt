-- `signals::raw::unsigned` meets its contract.
use Rattle.signals.proofs.Field.{field_cut}
use Rattle.signals.proofs.raw.unsigned.Goals as goal

pub returns : goal.returns
returns c =
    let a = c.args in
    let last = c.div_ceil-last.ensures in
    rw last (field_cut a.message.now a.start a.width c.requires c.number-n.result (rw last at c.number-n.ensures))
