-- `preoutput::plain::next` meets its contract.
use Rattle.preoutput.proofs.Runs.{next-words}
use Rattle.preoutput.proofs.plain.next.Goals as goal

pub returns : goal.returns
returns c =
    let a = c.args in
    next-words a.r a.a c.clock.result c.preoutput-y.result c.fed-fed.result c.shift_in.result c.preoutput-y.ensures c.fed-fed.ensures c.clock.ensures c.shift_in.ensures
