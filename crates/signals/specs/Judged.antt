-- What the verdicts say, and what is true of every value.
use Rattle.std.specs.Prelude.{◌≡◌, ◌⊎◌, true, false, suc, ℤ, pos, negsuc, Float}
use Rattle.std.specs.Float.{inf, binary64}
use Rattle.std.specs.Float.Ieee.{of_int, mul, lt, le, is_nan, to_bits, of_bits}
use Rattle.std.specs.Float.Ieee.Scale.{finite}
use Rattle.std.specs.Float.Ieee.Exact.{HasValue}
use Rattle.signals.specs.declared.Scaling.{Scaling}
use Rattle.signals.specs.declared.Verdict.{Verdict}
use Rattle.signals.specs.declared.Verdict.TheVariants.{Below, Within, Above, NotFinite}
use Rattle.signals.specs.Values.{unusable, value_of, verdict, carried}

-- What a verdict says of the value that it carries.
abbrev pub Says : Verdict → Scaling → Type 0
Says (Below v) s = (finite v ≡ true) × (lt v s.low ≡ true)
Says (Within v) s = (finite v ≡ true) × (le s.low v ≡ true) × (le v s.high ≡ true)
Says (Above v) s = (finite v ≡ true) × (lt s.high v ≡ true)
Says (NotFinite v) s = finite v ≡ false

-- Of a value and numbers that are usable, the verdict is true, and of the four no other is.
pub record Judged (v : Float) (s : Scaling) : Type 0 where
  pub carries : carried (verdict v s) ≡ v
  pub holds : Says (verdict v s) s
  pub only : (w : Verdict) → carried w ≡ v → Says w s → w ≡ verdict v s

abbrev pub Judges : Type 0
Judges = (v : Float) (s : Scaling) → unusable s ≡ false → Judged v s

-- A whole number as a double has its very value: it is finite, and has the sign and the size of the number.
abbrev pub Exact : ℤ → Type 0
Exact (pos n) = HasValue (of_int binary64 (pos n)) false n 1
Exact (negsuc n) = HasValue (of_int binary64 (negsuc n)) true (suc n) 1

-- The value is no NaN, and its bits tell it. Where it is not finite it is an infinity; a product that is not finite is not undone by the offset.
pub record Told (n : ℤ) (s : Scaling) : Type 0 where
  pub not_nan : is_nan (value_of n s) ≡ false
  pub told : of_bits binary64 (to_bits binary64 (value_of n s)) ≡ value_of n s
  pub infinite : finite (value_of n s) ≡ false → (value_of n s ≡ inf false) ⊎ (value_of n s ≡ inf true)
  pub overflowed : finite (mul binary64 (of_int binary64 n) s.scale) ≡ false → finite (value_of n s) ≡ false
