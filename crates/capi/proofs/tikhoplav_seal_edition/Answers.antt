-- `capi::tikhoplav_seal_edition` meets its contract.
use mathlib.Core.Path.{sym, ◌∙◌}
use mir.Syntax.{w64}
use mir.ValLaws.{to_z-of_z}
use Rattle.refusals.proofs.Returned.{returned}
use Rattle.named_edition.specs.Calls.{sealed}
use Rattle.named_edition.proofs.Calls.{sealed_unknown}
use Rattle.capi.proofs.Fits.{seal_fits, named_fits}
use Rattle.capi.proofs.tikhoplav_seal_edition.Goals as goal

pub returns : goal.returns
returns c =
    let a = c.args in
    returned _ _ (sealed a.edition a.key.now a.nonce.now a.ad.now a.message.now a.out.now) _ (to_z-of_z w64 c.signed.result (record { sfits = c.signed.type_inv }) ∙ c.signed.ensures)
    (named_fits a.edition a.out.now _ (λ e. sealed_unknown a.edition a.key.now a.nonce.now a.ad.now a.message.now a.out.now e ∙ sym c.seal.ensures.sealed) (λ e h. seal_fits e a.key.now a.nonce.now a.ad.now a.message.now a.out.now _ (c.seal.ensures.demand2 e h)))
    c.seal.ensures.sealed
