-- Demand 1 for the rows of a call: the order, and that no row stands outside it.
-- Assumes nothing.
use mathlib.Core.Path.{◌≡◌, refl, sym, subst}
use mathlib.Core.Bool.{false}
use mathlib.Core.List.{List, map}
use Prim.Native.Nat.{ℕ}
use Rattle.refusals.specs.declared.Refusal.{Refusal}
use Rattle.refusals.specs.Refusals.{Row, among, check, passed}
use Rattle.refusals.specs.Outcome.{judged}
use Rattle.refusals.specs.Demand1.{Clear}
use Rattle.refusals.proofs.Demand1 as any_call
use Rattle.refusals.proofs.Rows.{Quiet, no_other}
use Rattle.checks.specs.Order.{before_tag, order}
use Rattle.checks.specs.Rows.{table}
use Rattle.checks.specs.Demand1.{Numbered, Tabled, Demand1}

pub numbered : Numbered
unfolding order before_tag
numbered = refl

pub tabled : Tabled
unfolding order before_tag table
tabled limit key nonce ad too_long too_short no_room wrong_tag = refl

-- Over any rows, in their order.
module _ (rs : List Refusal) (rows : List Row) (listed : map (λ row. row.refusal) rows ≡ rs) where
  -- Where no row of the order applies, none does.
  pub none_at_all : Clear rs (among rows) → (r : Refusal) → among rows r ≡ false
  none_at_all clear = no_other rows (subst (λ (qs : List Refusal). Clear qs (among rows)) (sym listed) clear)

  -- The rows pass exactly when none applies.
  pub passed_quiet : check rs (among rows) ≡ passed → Quiet rows
  passed_quiet e = none_at_all ((any_call.decides (among rows) rs).passes.0 e)

  pub quiet_passed : Quiet rows → check rs (among rows) ≡ passed
  quiet_passed quiet = (any_call.decides (among rows) rs).passes.1 (λ r listed. quiet r)

  pub demand1 : (written out : List ℕ) → Demand1 rs (among rows) written out (judged rs (among rows) written out)
  demand1 written out =
      let d = any_call.demand1 rs (among rows) written out in
      record { ordered = d; accepts = (λ a. none_at_all (d.accepts.0 a), λ none. d.accepts.1 (λ r listed. none r)) }
