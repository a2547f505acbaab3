-- `preoutput::plain::clock` meets its contract.
use Rattle.preoutput.proofs.Words.{clock-words}
use Rattle.preoutput.proofs.plain.clock.Goals as goal

pub returns : goal.returns
returns c =
    let a = c.args in
    clock-words a.g _ a.to_lfsr a.to_nfsr
    record { first = c.shift_in.ensures; second = rw c.linear.ensures at c.shift_in-2.ensures }
    record { first = c.shift_in-3.ensures; second = rw c.nonlinear.ensures at c.shift_in-4.ensures }
