-- Demand 1 for calls that have these rows: that of every call, at their order.
use Rattle.std.specs.Prelude.{◌≡◌, ◌↔◌, Bool, false, List, [], ◌∷◌, map, ℕ}
use Rattle.refusals.specs.declared.Refusal.{Refusal}
use Rattle.refusals.specs.Refusals.{number}
use Rattle.refusals.specs.Outcome.{Outcome}
use Rattle.refusals.specs.Demand1.{Accepts}
use Rattle.refusals.specs.Demand1 as any_call
use Rattle.checks.specs.Order.{order}
use Rattle.checks.specs.Rows.{table}

-- The order is that of document 01's table, with 15 after 2 and before all else (document 02, C-18).
abbrev pub Numbered : Type 0
Numbered = map number order ≡ 1 ∷ 2 ∷ 15 ∷ 3 ∷ 4 ∷ 5 ∷ 6 ∷ 7 ∷ []

-- It is that of the rows.
abbrev pub Tabled : Type 0
Tabled =
    (limit : ℕ) (key nonce ad : List ℕ) (too_long too_short no_room wrong_tag : Bool)
    → map (λ row. row.refusal) (table limit key nonce ad too_long too_short no_room wrong_tag) ≡ order

-- Over the order and the rows of a call, the bytes that it writes on success, and the lent output: demand 1 at the order, and since no row
-- stands outside it, the call accepts exactly when no row at all applies.
pub record Demand1 (order : List Refusal) (applies : Refusal → Bool) (written out : List ℕ) (o : Outcome) : Type 0 where
  pub ordered : any_call.Demand1 order applies written out o
  pub accepts : Accepts o ↔ ((r : Refusal) → applies r ≡ false)
