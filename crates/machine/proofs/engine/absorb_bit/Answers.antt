-- `machine::engine::absorb_bit` meets its contract.
use Rattle.machine.proofs.Bitwise.{bit-run}
use Rattle.machine.proofs.engine.absorb_bit.Goals as goal

pub returns : goal.returns
returns c =
    let a = c.args in
    bit-run a.e a.m c.preoutput-new.result c.clock-between.result c.clock.result c.absorb.result c.clock-between.ensures c.preoutput-new.ensures c.clock.ensures c.absorb.ensures
