-- `captures::walk::capture` meets its contract.
use Rattle.std.proofs.Common.{sym, ap, ◌∙◌, arith, le-ltb, lt-ltb}
use Rattle.std.proofs.lemmas.Grind.{common_steps}
use Rattle.refusals.specs.Refusals.{Check}
use Rattle.captures.specs.Walk.{walk_capture}
use Rattle.captures.specs.Tallies.{refused_or}
use Rattle.captures.proofs.walk.capture.Goals as goal

pub returns-then-s-gt65536 : goal.returns-then-s-gt65536
unfolding walk_capture
returns-then-s-gt65536 c = simp (lt-ltb _ _ c.if-s-gt65536.true)

pub returns-in_err-section : goal.returns-in_err-section
unfolding walk_capture
returns-in_err-section c =
    let e = sym (ap (λ (p : Check). refused_or p c.section.new.tally) c.in_err-section.was) ∙ c.section.ensures in
    rw (le-ltb _ _ c.if-s-gt65536.false) (grind (arith, common_steps, e))

pub returns : goal.returns
unfolding walk_capture
returns c = sym (ap (λ (p : Check). refused_or p c.section.new.tally) c.in_ok-section.was) ∙ c.section.ensures ∙ simp (le-ltb _ _ c.if-s-gt65536.false)
