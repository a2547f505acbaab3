-- `grain128a::starting::fill` meets its contract.
use Rattle.grain128a.proofs.StartUp.{filled-words}
use Rattle.grain128a.proofs.starting.fill.Goals as goal

pub returns : goal.returns
returns c =
    filled-words _ _ _ _ _ c.preoutput_word-accumulator.ensures c.preoutput_word-register.ensures
