-- `capi::codes::tikhoplav_length_code` meets its contract.
use mathlib.Core.Path.{ap, ◌∙◌}
use mir.Syntax.{w64}
use mir.ValLaws.{to_z-of_z}
use Rattle.refusals.specs.Refusals.{Answer}
use Rattle.refusals.specs.Signed.{signed_of, capped}
use Rattle.length_codes.proofs.Fits.{code_fits}
use Rattle.capi.proofs.codes.tikhoplav_length_code.Goals as goal

pub returns : goal.returns
returns c =
    to_z-of_z w64 c.signed.result (record { sfits = c.signed.type_inv }) ∙ c.signed.ensures
    ∙ ap (λ (a : Answer). signed_of (capped a)) c.length_code.ensures ∙ ap signed_of (code_fits c.args.length)
