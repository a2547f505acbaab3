-- `probes::probe_start_up` meets its contract.
use mathlib.Core.Path.{ap}
use Rattle.authenticator.specs.Words.{authenticator_of}
use Rattle.machine.specs.Engine.{state_of}
use Rattle.machine.specs.Machine.{State}
use Rattle.probes.proofs.probe_start_up.Goals as goal

pub returns : goal.returns
unfolding state_of authenticator_of
returns c = ap (λ (st : State). st.authenticator.accumulator) c.start-e.ensures
