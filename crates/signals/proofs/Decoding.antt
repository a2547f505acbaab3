-- What decoding a signal answers, by what its two rows say.
-- Assumes nothing.
use mathlib.Core.Path.{◌≡◌, refl, sym, ap, ◌∙◌, subst}
use mathlib.Core.Bool.{Bool, true, false, cond, not}
use mathlib.Core.List.{List}
use Prim.Native.Nat.{ℕ}
use lib.Dec.{T}
use lib.ListN.{length}
use lib.Ieee.{Float, is_nan}
use Rattle.refusals.specs.declared.Refusal.{Refusal}
use Rattle.refusals.specs.declared.Refusal.TheVariants.{SignalPlace, SignalNumbers}
use Rattle.refusals.specs.Refusals.{Check, among, check, passed}
use Rattle.std.specs.Prelude.{Ok, Err}
use Rattle.refusals.proofs.Demand1.{passed_not_failed}
use Rattle.signals.specs.declared.Scaling.{Scaling}
use Rattle.signals.specs.declared.Verdict.{Verdict}
use Rattle.signals.specs.Calls.{Decoded}
use Rattle.signals.specs.Raw.{misplaced, raw}
use Rattle.signals.specs.Values.{unusable, value_of, verdict, carried}
use Rattle.signals.specs.Calls.{decided, decoded}
use Rattle.signals.proofs.Complement.{raw_in_float}
use Rattle.signals.proofs.Judged.{carries}
use Rattle.signals.proofs.Told.{value_no_nan}

-- The two rows in their order.
abbrev pub rows_tried : (place numbers : Bool) → Check
rows_tried place numbers = cond place (Err SignalPlace) (cond numbers (Err SignalNumbers) passed)

pub neither : (place numbers : Bool) → rows_tried place numbers ≡ passed → (place ≡ false) × (numbers ≡ false)
neither true numbers e = absurd (passed_not_failed e refl)
neither false true e = absurd (passed_not_failed e refl)
neither false false e = (refl, refl)

-- A value that is given is no NaN.
abbrev pub NoNan : Decoded → Type 0
NoNan (Ok v) = T (not (is_nan (carried v)))
NoNan (Err r) = Unit

module _ (message : List ℕ) (start width : ℕ) (signed : Bool) (s : Scaling) where
  abbrev given : Verdict
  given = verdict (value_of (raw message start width signed) s) s

  pub is_refused : {r : Refusal} → rows_tried (misplaced (length message) start width) (unusable s) ≡ Err r → decoded message start width signed s ≡ Err r
  unfolding decoded check among
  is_refused e = ap (λ (c : Check). decided c given) e

  pub is_value : misplaced (length message) start width ≡ false → unusable s ≡ false → decoded message start width signed s ≡ Ok given
  unfolding decoded check among
  is_value e f = ap (λ (b : Bool). decided (rows_tried b (unusable s)) given) e ∙ ap (λ (b : Bool). decided (rows_tried false b) given) f

  given_no_nan : misplaced (length message) start width ≡ false → unusable s ≡ false → T (not (is_nan (carried given)))
  given_no_nan e f =
      let n = raw message start width signed in
      subst (λ (v : Float). T (not (is_nan v))) (sym (carries (value_of n s) s)) (value_no_nan n s (raw_in_float message start width e signed) f)

  pub no_nan : NoNan (decoded message start width signed s)
  unfolding decoded check among
  no_nan = at (misplaced (length message) start width) (unusable s) refl refl
    where
      at : (place numbers : Bool) → misplaced (length message) start width ≡ place → unusable s ≡ numbers → NoNan (decided (rows_tried place numbers) given)
      at true numbers e f = tt
      at false true e f = tt
      at false false e f = given_no_nan e f
