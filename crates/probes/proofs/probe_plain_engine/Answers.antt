-- `probes::probe_plain_engine` meets its contract.
use mathlib.Core.Path.{ap}
use Rattle.generators.specs.Running.{Running}
use Rattle.preoutput.specs.Running.{running_of}
use Rattle.probes.proofs.probe_plain_engine.Goals as goal

pub returns : goal.returns
unfolding running_of
returns c = ap (λ (r : Running). r.outputs) (rw c.begun.ensures at c.run.ensures)
