-- Each refusal of decoding is given exactly where it applies, and the value everywhere else; raw numbers are exact as doubles.
-- Assumes nothing.
use mathlib.Core.Path.{◌≡◌, refl, ap}
use mathlib.Core.Bool.{Bool}
use Prim.Native.Nat.{ℕ}
use native.Mathlib.Omega.{arith}
use lib.ListN.{length}
use lib.Ieee.{Float, binary64, to_bits}
use Rattle.refusals.specs.declared.Refusal.{Refusal}
use Rattle.refusals.specs.Refusals.{Check, among, check}
use Rattle.std.specs.Prelude.{Ok, Err}
use Rattle.refusals.specs.Demand1.{Decides}
use Rattle.refusals.proofs.Demand1.{passed_not_failed, decides}
use Rattle.signals.specs.declared.Scaling.{Scaling}
use Rattle.signals.specs.declared.Verdict.{Verdict}
use Rattle.signals.specs.Calls.{Decoded}
use Rattle.signals.specs.Raw.{raw}
use Rattle.signals.specs.Values.{value_of, verdict}
use Rattle.signals.specs.Calls.{order, rows, decided, decoded}
use Rattle.signals.specs.Decodes.{Decodes, Decoding, ExactRaw, Tells}
use Rattle.signals.proofs.Complement.{raw_in_float}
use Rattle.signals.proofs.Judged.{carries}
use Rattle.signals.proofs.Told.{exact, told}

value-not-refused : {d : Decoded} {v : Verdict} {r : Refusal} → d ≡ Ok v → d ≡ Err r → ⊥
value-not-refused p q = let z : ◌≡◌ {A = ℕ} 0 1 = cc in omega arith

by_check : (applies : Refusal → Bool) (value : Float) (s : Scaling) (c : Check) → Decides order applies c → Decodes applies value s (decided c (verdict value s))
by_check applies value s (Ok u) d = record {
  refuses = λ r. (λ e. absurd (value-not-refused refl e), λ first. absurd (passed_not_failed refl ((d.fails r).1 first)));
  gives = (λ e. d.passes.0 refl, λ clear. refl);
  untouched = λ r e. absurd (value-not-refused refl e);
  writes = λ clear lent. ap (to_bits binary64) (carries value s);
}
by_check applies value s (Err q) d = record {
  refuses = λ r. (λ e. (d.fails r).0 (cc), λ first. let e = (d.fails r).1 first in cc);
  gives = (λ e. absurd (value-not-refused e refl), λ clear. absurd (passed_not_failed (d.passes.1 clear) refl));
  untouched = λ r e lent. refl;
  writes = λ clear. absurd (passed_not_failed (d.passes.1 clear) refl);
}

pub decoding : Decoding
unfolding decoded
decoding message start width signed s =
    let applies = among (rows (length message) start width s) in
    by_check applies (value_of (raw message start width signed) s) s (check order applies) (decides applies order)

pub exact_raw : ExactRaw
exact_raw message start width signed at = exact (raw message start width signed) (raw_in_float message start width at signed)

pub tells : Tells
tells message start width signed s at e = told (raw message start width signed) s (raw_in_float message start width at signed) e
