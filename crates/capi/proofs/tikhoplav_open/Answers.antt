-- `capi::tikhoplav_open` meets its contract.
use mathlib.Core.Path.{◌∙◌}
use mir.Syntax.{w64}
use mir.ValLaws.{to_z-of_z}
use Rattle.refusals.proofs.Returned.{returned}
use Rattle.machine.specs.declared.edition.Edition.TheVariants.{First}
use Rattle.grain128aead.specs.FirstEdition.{opened}
use Rattle.capi.proofs.Fits.{open_fits}
use Rattle.capi.proofs.tikhoplav_open.Goals as goal

pub returns : goal.returns
returns c =
    let a = c.args in
    returned _ _ (opened a.key.now a.nonce.now a.ad.now a.sealed.now a.out.now) _ (to_z-of_z w64 c.signed.result (record { sfits = c.signed.type_inv }) ∙ c.signed.ensures)
    (open_fits First a.key.now a.nonce.now a.ad.now a.sealed.now a.out.now _ c.«open».ensures.demand2) c.«open».ensures.opened
