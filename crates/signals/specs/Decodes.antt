-- What decoding gives, for every message, start, width and all doubles: each refusal exactly where it applies, in the order, and the value everywhere else.
use Rattle.std.specs.Prelude.{◌≡◌, ◌↔◌, Bool, false, List, ℕ, length, Float}
use Rattle.std.specs.Float.{binary64}
use Rattle.std.specs.Float.Ieee.{to_bits}
use Rattle.refusals.specs.declared.Refusal.{Refusal}
use Rattle.refusals.specs.Refusals.{among}
use Rattle.refusals.specs.Demand1.{First, Clear}
use Rattle.signals.specs.declared.Scaling.{Scaling}
use Rattle.signals.specs.Calls.{Decoded}
use Rattle.std.specs.Prelude.{Ok, Err}
use Rattle.signals.specs.Raw.{misplaced, raw}
use Rattle.signals.specs.Values.{unusable, value_of, verdict}
use Rattle.signals.specs.Judged.{Exact, Told}
use Rattle.signals.specs.Calls.{order, rows, decoded, bits_after}

-- Over the rows of a call, the value and its limits, and what decoding comes to.
pub record Decodes (applies : Refusal → Bool) (value : Float) (s : Scaling) (d : Decoded) : Type 0 where
  pub refuses : (r : Refusal) → (d ≡ Err r) ↔ First order applies r
  pub gives : (d ≡ Ok (verdict value s)) ↔ Clear order applies
  pub untouched : (r : Refusal) → d ≡ Err r → (lent : ℕ) → bits_after d lent ≡ lent
  pub writes : Clear order applies → (lent : ℕ) → bits_after d lent ≡ to_bits binary64 value

abbrev pub Decoding : Type 0
Decoding = (message : List ℕ) (start width : ℕ) (signed : Bool) (s : Scaling)
    → Decodes (among (rows (length message) start width s)) (value_of (raw message start width signed) s) s (decoded message start width signed s)

-- The raw number of a signal that lies in its message is exact as a double, and with usable numbers its bits tell its value.
abbrev pub ExactRaw : Type 0
ExactRaw = (message : List ℕ) (start width : ℕ) (signed : Bool) → misplaced (length message) start width ≡ false → Exact (raw message start width signed)

abbrev pub Tells : Type 0
Tells = (message : List ℕ) (start width : ℕ) (signed : Bool) (s : Scaling) → misplaced (length message) start width ≡ false → unusable s ≡ false → Told (raw message start width signed) s
