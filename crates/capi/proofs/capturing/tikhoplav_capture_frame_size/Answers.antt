-- `capi::capturing::tikhoplav_capture_frame_size` meets its contract.
use mathlib.Core.Path.{ap, ◌∙◌}
use mir.Syntax.{w64}
use mir.ValLaws.{to_z-of_z}
use Rattle.refusals.specs.Refusals.{Answer}
use Rattle.refusals.specs.Signed.{signed_of, capped}
use Rattle.captures.proofs.Within.{size_fits}
use Rattle.capi.proofs.capturing.tikhoplav_capture_frame_size.Goals as goal

pub returns : goal.returns
returns c =
    to_z-of_z w64 c.signed.result (record { sfits = c.signed.type_inv }) ∙ c.signed.ensures
    ∙ ap (λ (a : Answer). signed_of (capped a)) c.frame_size.ensures ∙ ap signed_of (size_fits c.args.capture.now c.args.number)
