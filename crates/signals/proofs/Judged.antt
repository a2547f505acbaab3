-- The verdict on a value is true, and of the four no other is.
-- Assumes nothing.
use mathlib.Core.Path.{◌≡◌, refl, subst}
use mathlib.Core.Bool.{Bool, true, false, cond}
use lib.Ieee.{Float, lt}
use lib.Ieee.Scale.{finite}
use Rattle.signals.specs.declared.Scaling.{Scaling}
use Rattle.signals.specs.declared.Verdict.{Verdict}
use Rattle.signals.specs.declared.Verdict.TheVariants.{Below, Within, Above, NotFinite}
use Rattle.signals.specs.Values.{verdict, carried}
use Rattle.signals.specs.Judged.{Says, Judges}
use Rattle.signals.proofs.Comparing.{le_of_not_lt, not_lt_of_le, not_lt_of_above}
use Rattle.signals.proofs.Usable.{Usable, usable}

-- The verdict by its three tests: finite, below and above.
abbrev by_tests : Float → Bool → Bool → Bool → Verdict
by_tests v f b a = cond f (cond b (Below v) (cond a (Above v) (Within v))) (NotFinite v)

by_tests-carries : (v : Float) (f b a : Bool) → carried (by_tests v f b a) ≡ v
by_tests-carries v true true a = refl
by_tests-carries v true false true = refl
by_tests-carries v true false false = refl
by_tests-carries v false b a = refl

pub carries : (v : Float) (s : Scaling) → carried (verdict v s) ≡ v
carries v s = by_tests-carries v (finite v) (lt v s.low) (lt s.high v)

module _ (s : Scaling) (u : Usable s) where
  holds : (v : Float) (f b a : Bool) → finite v ≡ f → lt v s.low ≡ b → lt s.high v ≡ a → Says (by_tests v f b a) s
  holds v true true a p q r = (p, q)
  holds v true false true p q r = (p, r)
  holds v true false false p q r = (p, le_of_not_lt v s.low p u.low q, le_of_not_lt s.high v u.high p r)
  holds v false b a p q r = p

  own : (w : Verdict) → Says w s → w ≡ verdict (carried w) s
  own (Below v) h = rw (h.0, h.1)
  own (Within v) h = rw (h.0, not_lt_of_le s.low v h.1, not_lt_of_le v s.high h.2)
  own (Above v) h = rw (h.0, not_lt_of_above s.low s.high v u.low u.high h.0 u.ordered h.1, h.1)
  own (NotFinite v) h = rw h

pub judges : Judges
judges v s e =
    record {
      carries = carries v s;
      holds = holds s (usable s e) v (finite v) (lt v s.low) (lt s.high v) refl refl refl;
      only = λ w c h. subst (λ (x : Float). w ≡ verdict x s) c (own s (usable s e) w h);
    }
