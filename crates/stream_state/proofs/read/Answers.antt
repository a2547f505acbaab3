-- `stream_state::read` meets its contract.
use native.Mathlib.Omega.{arith}
use Rattle.std.proofs.lemmas.Bool.Decides.{nat_tests}
use Rattle.stream_state.specs.Layout.{held, sound}
use Rattle.stream_state.proofs.read.Goals.{then-not-can_occur-via-then-not-can_occur, then-not-can_occur-via-else-not-can_occur+then-not-spare_is_zero}
use Rattle.stream_state.proofs.read.Goals as goal

pub returns-then-not-can_occur : goal.returns-then-not-can_occur
unfolding held sound
returns-then-not-can_occur c =
    elim c.then-not-can_occur.branch [
      | then-not-can_occur-via-then-not-can_occur w ↦ grind (arith, nat_tests)
      | then-not-can_occur-via-else-not-can_occur+then-not-spare_is_zero w ↦ grind (arith, nat_tests)
    ]
