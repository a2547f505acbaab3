-- `frame_checks::layout::field_size` meets its contract.
use mathlib.Core.Path.{ap, ◌∙◌}
use Rattle.length_codes.specs.LengthCodes.{coded_length}
use Rattle.frame_checks.proofs.layout.field_size.Goals as goal

pub returns : goal.returns
returns c = c.coded_length.ensures ∙ ap coded_length c.field_code.ensures
