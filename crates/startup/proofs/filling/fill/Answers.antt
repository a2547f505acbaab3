-- `startup::filling::fill` meets its contract.
use Rattle.preoutput.specs.Running.{to_lfsr, to_nfsr}
use Rattle.startup.proofs.Filled.{fills}
use Rattle.startup.proofs.filling.fill.Goals as goal

pub returns : goal.returns
unfolding to_lfsr to_nfsr
returns c =
    let a = c.args in
    fills a.g a.added c.run.result (rw c.begun.ensures at c.run.ensures)
