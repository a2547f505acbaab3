-- `grain128a::beginning::warm` meets its contract.
use mathlib.Core.Path.{ap, ◌∙◌}
use Rattle.bits.specs.Times.{times}
use Rattle.generators.specs.Generator.{fed_back}
use Rattle.preoutput.specs.Functions.{grain128}
use Rattle.grain128a.specs.StartUp.{warmed}
use Rattle.grain128a.proofs.beginning.warm.Goals as goal

pub returns : goal.returns
unfolding warmed
returns c = c.warm.ensures ∙ ap (times 256 (fed_back grain128)) c.load.ensures
