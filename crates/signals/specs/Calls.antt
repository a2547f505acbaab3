-- What decoding a signal answers (document 02, C-22): refusal 21, "22, after 21", or the value with its verdict.
use Rattle.std.specs.Prelude.{Bool, not, List, [], ◌∷◌, ℕ, eqb, length, Float}
use Rattle.std.specs.Float.{binary64}
use Rattle.std.specs.Float.Ieee.{to_bits}
use Rattle.refusals.specs.declared.Refusal.{Refusal}
use Rattle.refusals.specs.declared.Refusal.TheVariants.{SignalPlace, SignalNumbers}
use Rattle.refusals.specs.Refusals.{Check, Answer, Row, ◌when◌, among, check}
use Rattle.std.specs.Prelude.{Result, Ok, Err}
use Rattle.signals.specs.declared.Scaling.{Scaling}
use Rattle.signals.specs.declared.Verdict.{Verdict}
use Rattle.signals.specs.Raw.{misplaced, raw}
use Rattle.signals.specs.Values.{unusable, value_of, verdict, carried, number}

abbrev pub order : List Refusal
order = SignalPlace ∷ SignalNumbers ∷ []

abbrev pub rows : (n start width : ℕ) → Scaling → List Row
rows n start width s = (SignalPlace when misplaced n start width) ∷ (SignalNumbers when unusable s) ∷ []

-- What decoding a signal comes to: its value with the verdict, or why it has none.
abbrev pub Decoded : Type 0
Decoded = Result Verdict Refusal

-- The value once the rows have been tried.
abbrev pub decided : Check → Verdict → Decoded
decided (Ok u) v = Ok v
decided (Err r) v = Err r

unfoldable pub decoded : (message : List ℕ) (start width : ℕ) (signed : Bool) → Scaling → Decoded
unfolding check among
decoded message start width signed s =
    decided (check order (among (rows (length message) start width s))) (verdict (value_of (raw message start width signed) s) s)

-- The number of the verdict, or the refusal.
abbrev pub answer : Decoded → Answer
answer (Ok v) = Ok (number v)
answer (Err r) = Err r

-- The number lent for the bits of the value: those of the value, or as lent after a refusal.
abbrev pub bits_after : Decoded → (lent : ℕ) → ℕ
bits_after (Ok v) lent = to_bits binary64 (carried v)
bits_after (Err r) lent = lent

-- The four numbers held together.
abbrev pub scaling : (scale offset low high : Float) → Scaling
scaling scale offset low high = record { scale = scale; offset = offset; low = low; high = high }

-- The flag of a call in C: every number but 0 means signed.
abbrev pub is_signed_of : (flag : ℕ) → Bool
is_signed_of flag = not (eqb flag 0)
