-- `machine::engine::finish` meets its contract.
use Rattle.machine.proofs.Bitwise.{final_run}
use Rattle.machine.proofs.engine.finish.Goals as goal

pub returns : goal.returns
returns c = final_run c.args.e
