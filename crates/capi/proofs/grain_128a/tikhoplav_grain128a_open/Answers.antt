-- `capi::grain_128a::tikhoplav_grain128a_open` meets its contract.
use mathlib.Core.Path.{◌∙◌}
use mir.Syntax.{w64}
use mir.ValLaws.{to_z-of_z}
use Rattle.refusals.proofs.Returned.{returned}
use Rattle.grain128a.specs.Calls.{opened}
use Rattle.capi.proofs.Fits.{tagged_open_fits}
use Rattle.capi.proofs.grain_128a.tikhoplav_grain128a_open.Goals as goal

pub returns : goal.returns
returns c =
    let a = c.args in
    returned _ _ (opened a.tag_bits a.key.now a.nonce.now a.sealed.now a.out.now) _ (to_z-of_z w64 c.signed.result (record { sfits = c.signed.type_inv }) ∙ c.signed.ensures)
    (tagged_open_fits a.tag_bits a.key.now a.nonce.now a.sealed.now a.out.now _ c.«open».ensures.demand2) c.«open».ensures.opened
