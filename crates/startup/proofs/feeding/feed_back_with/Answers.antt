-- `startup::feeding::feed_back_with` meets its contract.
use Rattle.preoutput.specs.Running.{to_lfsr, to_nfsr}
use Rattle.startup.proofs.Filled.{fed_back_with_lem}
use Rattle.startup.proofs.feeding.feed_back_with.Goals as goal

pub returns : goal.returns
unfolding to_lfsr to_nfsr
returns c =
    let a = c.args in
    fed_back_with_lem a.g a.to_lfsr a.to_nfsr c.run.result (rw c.begun.ensures at c.run.ensures)
