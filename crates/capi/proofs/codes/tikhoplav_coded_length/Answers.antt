-- `capi::codes::tikhoplav_coded_length` meets its contract.
use mathlib.Core.Path.{ap, ◌∙◌}
use mir.Syntax.{w64}
use mir.ValLaws.{to_z-of_z}
use Rattle.refusals.specs.Refusals.{Answer}
use Rattle.refusals.specs.Signed.{signed_of, capped}
use Rattle.length_codes.proofs.Fits.{length_fits}
use Rattle.capi.proofs.codes.tikhoplav_coded_length.Goals as goal

pub returns : goal.returns
returns c =
    to_z-of_z w64 c.signed.result (record { sfits = c.signed.type_inv }) ∙ c.signed.ensures
    ∙ ap (λ (a : Answer). signed_of (capped a)) c.coded_length.ensures ∙ ap signed_of (length_fits c.args.code)
