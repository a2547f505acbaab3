-- Demand 1, over any order of refusals, any rows and any bytes written: each refusal exactly when its row applies and no earlier one
-- does, and the output as lent after each.
use Rattle.std.specs.Prelude.{◌≡◌, ◌↔◌, Bool, true, false, ℕ, length, take, drop}
use mathlib.Core.List.{List, ◌∷◌, ◌++◌, map, Memᴰ}
use Rattle.refusals.specs.declared.Refusal.{Refusal}
use Rattle.std.specs.Prelude.{Ok, Err}
use Rattle.refusals.specs.Refusals.{Row, among, passed, Check}
use Rattle.refusals.specs.Outcome.{Outcome, success}

-- Of a list of refusals, r is the first whose row applies: it stands there, its row applies, and that of none before it does.
abbrev pub First : List Refusal → (applies : Refusal → Bool) → Refusal → Type 0
First rs applies r =
    (earlier later : List Refusal) × (rs ≡ earlier ++ (r ∷ later)) × (applies r ≡ true)
    × ((q : Refusal) → Memᴰ q earlier → applies q ≡ false)

-- No row of a list applies.
abbrev pub Clear : List Refusal → (applies : Refusal → Bool) → Type 0
Clear rs applies = (r : Refusal) → Memᴰ r rs → applies r ≡ false

-- What the rows of a call decide, whatever it writes: it fails with the first refusal whose row applies, and passes where none does.
pub record Decides (order : List Refusal) (applies : Refusal → Bool) (c : Check) : Type 0 where
  pub fails : (r : Refusal) → (c ≡ Err r) ↔ First order applies r
  pub passes : (c ≡ passed) ↔ Clear order applies

abbrev pub Accepts : Outcome → Type 0
Accepts o = (n : ℕ) × (o.answer ≡ Ok n)

-- Over the order and the rows of a call, the bytes that it writes on success, and the lent output.
pub record Demand1 (order : List Refusal) (applies : Refusal → Bool) (written out : List ℕ) (o : Outcome) : Type 0 where
  pub refuses : (r : Refusal) → (o.answer ≡ Err r) ↔ First order applies r
  pub untouched : (r : Refusal) → o.answer ≡ Err r → o.output ≡ out
  pub accepts : Accepts o ↔ Clear order applies
  pub writes : Accepts o → o ≡ success written out
  pub front : Accepts o → take (length written) o.output ≡ written
  pub behind : Accepts o → drop (length written) o.output ≡ drop (length written) out

-- Of a list of rows, in their order: where none of them applies, no refusal's row does.
abbrev pub NoOther : Type 0
NoOther = (rows : List Row) → Clear (map (λ row. row.refusal) rows) (among rows) → (r : Refusal) → among rows r ≡ false
