-- `grain128a::beginning::begin` meets its contract.
use mathlib.Core.Path.{ap, ◌∙◌}
use Rattle.grain128a.specs.StartUp.{filled, initialised}
use Rattle.grain128a.proofs.beginning.begin.Goals as goal

pub returns : goal.returns
unfolding initialised
returns c = c.fill.ensures ∙ ap filled c.warm.ensures
