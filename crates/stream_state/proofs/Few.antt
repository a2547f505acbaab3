-- The clocks of a stream are few: the bounds of what they are counted from.
-- Assumes nothing.
use Prim.Native.Nat.{ℕ, ◌≤◌}
use lib.Dec.{lit≤}
use lib.ListN.{length}
use Rattle.machine.specs.declared.edition.Edition.{Edition}
use Rattle.machine.specs.declared.edition.Edition.TheVariants.{First, Second}
use Rattle.startup.specs.Editions.{running_from}
use Rattle.lengths.specs.CodedLength.{coded_length}
use Rattle.lengths.proofs.CodedLength.{coded-at-most}

pub coded_few : (n : ℕ) → length (coded_length n) ≤ 3
coded_few n = coded-at-most n

pub runs_early : (e : Edition) → running_from e ≤ 512
runs_early First = lit≤ tt
runs_early Second = lit≤ tt
