-- `signals::judging::verdict` meets its contract.
use Rattle.signals.proofs.Comparing.{finite_answered}
use Rattle.signals.proofs.judging.verdict.Goals as goal

pub returns-then-not-is_finite : goal.returns-then-not-is_finite
returns-then-not-is_finite c = rw (finite_answered c.args.value c.is_finite.ensures.value c.if-not-is_finite.true)

pub returns-then-value-s : goal.returns-then-value-s
returns-then-value-s c = rw (finite_answered c.args.value c.is_finite.ensures.value c.if-not-is_finite.false, c.if-value-s.true)

pub returns-then-s-value : goal.returns-then-s-value
returns-then-s-value c = rw (finite_answered c.args.value c.is_finite.ensures.value c.if-not-is_finite.false, c.if-value-s.false, c.if-s-value.true)

pub returns : goal.returns
returns c = rw (finite_answered c.args.value c.is_finite.ensures.value c.if-not-is_finite.false, c.if-value-s.false, c.if-s-value.false)
