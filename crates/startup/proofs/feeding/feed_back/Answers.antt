-- `startup::feeding::feed_back` meets its contract.
use Rattle.preoutput.specs.Running.{to_lfsr, to_nfsr}
use Rattle.startup.proofs.Filled.{fed_back_lem}
use Rattle.startup.proofs.feeding.feed_back.Goals as goal

pub returns : goal.returns
unfolding to_lfsr to_nfsr
returns c =
    fed_back_lem c.args.clocks c.args.g c.run.result (rw c.begun.ensures at c.run.ensures)
