-- The value of a raw number, and where it lies in its limits, by IEEE 754's doubles (document 02, C-22).
use Rattle.std.specs.Prelude.{Bool, not, cond, ◌&&◌, ◌||◌, ℕ, ℤ, Float}
use Rattle.std.specs.Float.{binary64}
use Rattle.std.specs.Float.Ieee.{of_int, mul, add, lt}
use Rattle.std.specs.Float.Ieee.Scale.{finite}
use Rattle.signals.specs.declared.Scaling.{Scaling}
use Rattle.signals.specs.declared.Verdict.{Verdict}
use Rattle.signals.specs.declared.Verdict.TheVariants.{Below, Within, Above, NotFinite}

-- "any of the four numbers not finite, or low limit above high"
abbrev pub unusable : Scaling → Bool
unusable s = not (finite s.scale && finite s.offset && finite s.low && finite s.high) || lt s.high s.low

-- "raw times scale, rounded once, plus offset, rounded once"
unfoldable pub value_of : (raw : ℤ) → Scaling → Float
value_of raw s = add binary64 (mul binary64 (of_int binary64 raw) s.scale) s.offset

-- "whether the value is below, within (ends included) or above the limits, or, if the arithmetic overflowed, that it isn't finite"
abbrev pub verdict : (value : Float) → Scaling → Verdict
verdict value s = cond (finite value) (cond (lt value s.low) (Below value) (cond (lt s.high value) (Above value) (Within value))) (NotFinite value)

abbrev pub carried : Verdict → Float
carried (Below value) = value
carried (Within value) = value
carried (Above value) = value
carried (NotFinite value) = value

abbrev pub number : Verdict → ℕ
number (Below value) = 1
number (Within value) = 2
number (Above value) = 3
number (NotFinite value) = 4
