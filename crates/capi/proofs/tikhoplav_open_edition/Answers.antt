-- `capi::tikhoplav_open_edition` meets its contract.
use mathlib.Core.Path.{sym, ◌∙◌}
use mir.Syntax.{w64}
use mir.ValLaws.{to_z-of_z}
use Rattle.refusals.proofs.Returned.{returned}
use Rattle.named_edition.specs.Calls.{opened}
use Rattle.named_edition.proofs.Calls.{opened_unknown}
use Rattle.capi.proofs.Fits.{open_fits, named_fits}
use Rattle.capi.proofs.tikhoplav_open_edition.Goals as goal

pub returns : goal.returns
returns c =
    let a = c.args in
    returned _ _ (opened a.edition a.key.now a.nonce.now a.ad.now a.sealed.now a.out.now) _ (to_z-of_z w64 c.signed.result (record { sfits = c.signed.type_inv }) ∙ c.signed.ensures)
    (named_fits a.edition a.out.now _ (λ e. opened_unknown a.edition a.key.now a.nonce.now a.ad.now a.sealed.now a.out.now e ∙ sym c.«open».ensures.opened) (λ e h. open_fits e a.key.now a.nonce.now a.ad.now a.sealed.now a.out.now _ (c.«open».ensures.demand2 e h)))
    c.«open».ensures.opened
