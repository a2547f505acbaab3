-- `capi::capturing::tikhoplav_capture_frame` meets its contract.
use mathlib.Core.Path.{ap, ◌∙◌}
use mir.Syntax.{w64}
use mir.ValLaws.{to_z-of_z}
use Rattle.refusals.specs.Refusals.{Answer}
use Rattle.refusals.specs.Signed.{signed_of, capped}
use Rattle.captures.proofs.Within.{start_fits}
use Rattle.capi.proofs.capturing.tikhoplav_capture_frame.Goals as goal

pub returns : goal.returns
returns c =
    to_z-of_z w64 c.signed.result (record { sfits = c.signed.type_inv }) ∙ c.signed.ensures
    ∙ ap (λ (a : Answer). signed_of (capped a)) c.frame_start.ensures ∙ ap signed_of (start_fits c.args.capture.now c.args.number)
