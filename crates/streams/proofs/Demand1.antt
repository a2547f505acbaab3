-- Each refusal of a call on a stream is given exactly when it applies.
-- Assumes nothing.
use mathlib.Core.Path.{◌≡◌, refl}
use mathlib.Core.Bool.{Bool, not}
use mathlib.Core.List.{List}
use Prim.Native.Nat.{ℕ}
use lib.ListN.{length}
use Rattle.refusals.specs.declared.Refusal.{Refusal}
use Rattle.refusals.specs.Refusals.{Check, Answer, among, check}
use Rattle.std.specs.Prelude.{Ok, Err}
use Rattle.refusals.specs.Demand1.{Decides}
use Rattle.refusals.proofs.Demand1.{passed_not_failed, count-not-refused, decides}
use Rattle.limits.specs.Limits.{message_limit}
use Rattle.stream_state.specs.Layout.{read, sound}
use Rattle.streams.specs.Calls.{Call, order, rows, next, produced, lent, settled, called}
use Rattle.streams.specs.Demand1.{Demand1}

pub demand1 : (c : Call) (state : List ℕ) → Demand1 c state (called c state)
unfolding called settled
demand1 c state = by_check (check (order c) applies) (decides applies (order c))
  where
    applies : Refusal → Bool
    applies = among (rows c (length state) (not (sound message_limit state)) (read state))

    by_check : (d : Check) → Decides (order c) applies d → Demand1 c state (settled d (next c (read state)) (produced c (read state)) state (lent c))
    by_check (Ok u) d = record {
      refuses = λ r. (λ e. absurd (count-not-refused refl e), λ first. absurd (passed_not_failed refl ((d.fails r).1 first)));
      accepts = (λ a. d.passes.0 refl, λ clear. (_, refl));
      untouched = λ r e. absurd (count-not-refused refl e);
      goes = λ a. refl;
    }
    by_check (Err q) d = record {
      refuses = λ r. (λ e. (d.fails r).0 (failed e), λ first. refused ((d.fails r).1 first));
      accepts = (λ a. absurd (count-not-refused a.1 refl), λ clear. absurd (passed_not_failed (d.passes.1 clear) refl));
      untouched = λ r e. (refl, refl);
      goes = λ a. absurd (count-not-refused a.1 refl);
    }
      where
        failed : {r : Refusal} → ◌≡◌ {A = Answer} (Err q) (Err r) → ◌≡◌ {A = Check} (Err q) (Err r)
        failed e = cc

        refused : {r : Refusal} → ◌≡◌ {A = Check} (Err q) (Err r) → ◌≡◌ {A = Answer} (Err q) (Err r)
        refused e = cc
