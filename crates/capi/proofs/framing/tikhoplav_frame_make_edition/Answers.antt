-- `capi::framing::tikhoplav_frame_make_edition` meets its contract.
use mathlib.Core.Path.{sym, ◌∙◌}
use mir.Syntax.{w64}
use mir.ValLaws.{to_z-of_z}
use Rattle.refusals.proofs.Returned.{returned}
use Rattle.named_frames.specs.Calls.{made}
use Rattle.named_frames.proofs.Calls.{made_unknown}
use Rattle.capi.proofs.Fits.{make_fits, named_fits}
use Rattle.capi.proofs.framing.tikhoplav_frame_make_edition.Goals as goal

pub returns : goal.returns
returns c =
    let a = c.args in
    returned _ _ (made a.edition a.key.now a.nonce.now a.identifier a.message.now a.out.now) _ (to_z-of_z w64 c.signed.result (record { sfits = c.signed.type_inv }) ∙ c.signed.ensures)
    (named_fits a.edition a.out.now _ (λ e. made_unknown a.edition a.key.now a.nonce.now a.identifier a.message.now a.out.now e ∙ sym c.make.ensures.made) (λ e h. make_fits e a.key.now a.nonce.now a.identifier a.message.now a.out.now _ (c.make.ensures.demand2 e h)))
    c.make.ensures.made
