-- The measure is the levels that are left. The loop's invariant: the bodies that are left come, with the tally so far, to what the whole section comes to.
use Rattle.captures.specs.Layout.{entry_count}
use Rattle.captures.proofs.SectionLoop.{Left}
use Rattle.captures.proofs.walk.+section.Given as goal

abbrev pub decreases-section : goal.decreases-section
decreases-section l = l.levels

abbrev pub invariant-loop-e : goal.invariant-loop-e
invariant-loop-e l = Left l.sought.0 l.fn.tally l.base l.levels l.s (entry_count l.s) l.tally l.place l.e-index
