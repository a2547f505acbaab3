-- `tagged::border` meets its contract.
use Rattle.std.proofs.Common.{arith}
use Rattle.std.proofs.lemmas.Grind.{common_steps}
use Rattle.tagged.specs.Payload.{ciphertext_part, tag_part}
use Rattle.tagged.proofs.border.Goals as goal

pub returns : goal.returns
unfolding ciphertext_part tag_part
returns c = grind (arith, common_steps)
