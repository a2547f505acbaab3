-- `streams::going::start` meets its contract.
use mathlib.Core.Path.{ap₂, ◌∙◌}
use Rattle.machine.specs.declared.edition.Edition.{Edition}
use Rattle.machine.specs.Machine.{State, run}
use Rattle.startup.specs.Editions.{bits_in}
use Rattle.lengths.specs.CodedLength.{coded_length}
use Rattle.streams.proofs.Engines.{start-edition}
use Rattle.streams.proofs.going.start.Goals as goal

pub returns : goal.returns
returns c =
    let a = c.args in
    c.absorb_length.ensures
    ∙ ap₂ (λ (v : Edition) (st : State). run st (bits_in v (coded_length a.announced))) (start-edition a.edition a.key.now a.nonce.now c.start.result c.start.ensures) c.start.ensures
