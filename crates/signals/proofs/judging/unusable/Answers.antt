-- `signals::judging::unusable` meets its contract.
use Rattle.signals.proofs.Comparing.{finite_is}
use Rattle.signals.proofs.judging.unusable.Goals as goal

pub returns : goal.returns
returns c = simp (c.is_finite.ensures.value, c.is_finite-2.ensures.value, c.is_finite-3.ensures.value, c.is_finite-4.ensures.value, finite_is)
