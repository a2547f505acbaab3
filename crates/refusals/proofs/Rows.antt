-- Rows of a call: tried one after the other they come to the first that applies; a refusal that has none among them never applies.
-- Assumes nothing.
use mathlib.Core.Path.{◌≡◌, refl, sym, ap, ◌∙◌}
use mathlib.Core.Logic.{◌⊎◌, inl, inr, ⊎_elim}
use mathlib.Core.Bool.{Bool, true, false, cond}
use mathlib.Core.List.{List, [], ◌∷◌, ◌++◌, map, foldl, Memᴰ}
use Prim.Native.Nat.{ℕ}
use borrow.Author.Tests.{eqb-true}
use lib.Dec.{eqb}
use Rattle.refusals.specs.declared.Refusal.{Refusal}
use Rattle.std.specs.Prelude.{Err, Some}
use Rattle.std.specs.List.{find}
use Rattle.std.specs.Option.{option_map_or}
use Rattle.refusals.specs.Refusals.{number, Row, among, after, tried, check, passed, Check}
use Rattle.refusals.specs.Demand1.{NoOther}
use Rattle.refusals.proofs.Demand1.{passed_not_failed}

-- The rows of a list tried in turn, after some others.
abbrev pub in_order : (applies : Refusal → Bool) → Check → List Refusal → Check
in_order applies = foldl (λ c r. after c r (applies r))

failed_stays : (applies : Refusal → Bool) (q : Refusal) (rs : List Refusal) → in_order applies (Err q) rs ≡ Err q
failed_stays applies q [] = refl
failed_stays applies q (r ∷ rs) = failed_stays applies q rs

pub check-in_order : (applies : Refusal → Bool) (rs : List Refusal) → in_order applies passed rs ≡ check rs applies
unfolding check
check-in_order applies [] = refl
check-in_order applies (r ∷ rs) = go (applies r) (check-in_order applies rs)
  where
    go : (b : Bool) → in_order applies passed rs ≡ check rs applies → in_order applies (cond b (Err r) passed) rs ≡ cond b (Err r) (check rs applies)
    go true e = failed_stays applies r rs
    go false e = e

-- The first row that applies, as it is found, is what the rows come to.
pub tried_found : (rows : List (Refusal × Bool)) → option_map_or (λ r. Err r.0) (find (λ r. r.1) rows) passed ≡ tried rows
tried_found [] = refl
tried_found (row ∷ rows) = go row.1 (tried_found rows)
  where
    go : (b : Bool) → option_map_or (λ r. Err r.0) (find (λ r. r.1) rows) passed ≡ tried rows
        → option_map_or (λ r. Err r.0) (cond b (Some row) (find (λ r. r.1) rows)) passed ≡ cond b (Err row.0) (tried rows)
    go true e = refl
    go false e = e

-- Where a row of some refusals applies, those behind them are not tried.
pub failed_front : (applies : Refusal → Bool) (later rs : List Refusal) {r : Refusal} → check rs applies ≡ Err r → check (rs ++ later) applies ≡ Err r
unfolding check
failed_front applies later [] e = absurd (passed_not_failed refl e)
failed_front applies later (q ∷ rs) {r} e = go (applies q) (failed_front applies later rs) e
  where
    go : (b : Bool) → (check rs applies ≡ Err r → check (rs ++ later) applies ≡ Err r)
        → cond b (Err q) (check rs applies) ≡ Err r → cond b (Err q) (check (rs ++ later) applies) ≡ Err r
    go true rest e = e
    go false rest e = rest e

-- No refusal's row applies: of no rows, and of one row more that does not.
abbrev pub Quiet : List Row → Type 0
Quiet rows = (r : Refusal) → among rows r ≡ false

pub quiet_none : Quiet []
unfolding among
quiet_none r = refl

pub quiet_row : (row : Row) (rows : List Row) → row.applies ≡ false → Quiet rows → Quiet (row ∷ rows)
unfolding among
quiet_row row rows e quiet r = go (eqb (number row.refusal) (number r))
  where
    go : (b : Bool) → cond b row.applies (among rows r) ≡ false
    go true = e
    go false = quiet r

-- The refusals of the rows.
abbrev listed : List Row → List Refusal
listed = map (λ row. row.refusal)

-- Whether a row applies is told by the refusal's number.
same_number : (rows : List Row) (q r : Refusal) → number q ≡ number r → among rows q ≡ among rows r
unfolding among
same_number [] q r e = refl
same_number (row ∷ rows) q r e =
    ap (λ (n : ℕ). cond (eqb (number row.refusal) n) row.applies (among rows q)) e
    ∙ ap (cond (eqb (number row.refusal) (number r)) row.applies) (same_number rows q r e)

-- A refusal has the number of one that is listed, or its row does not apply.
listed-or-not : (rows : List Row) (r : Refusal) → ((q : Refusal) × Memᴰ q (listed rows) × (number q ≡ number r)) ⊎ (among rows r ≡ false)
unfolding among
listed-or-not [] r = inr refl
listed-or-not (row ∷ rows) r = go (eqb (number row.refusal) (number r)) refl (listed-or-not rows r)
  where
    go : (b : Bool) → eqb (number row.refusal) (number r) ≡ b
        → ((q : Refusal) × Memᴰ q (listed rows) × (number q ≡ number r)) ⊎ (among rows r ≡ false)
        → ((q : Refusal) × Memᴰ q (listed (row ∷ rows)) × (number q ≡ number r)) ⊎ (cond b row.applies (among rows r) ≡ false)
    go true e rest = inl (row.refusal, Memᴰ.head refl, eqb-true (number row.refusal) (number r) e)
    go false e (inl v) = inl (v.0, Memᴰ.tail v.1, v.2)
    go false e (inr none) = inr none

pub no_other : NoOther
no_other rows clear r =
    ⊎_elim
    (λ (v : (q : Refusal) × Memᴰ q (listed rows) × (number q ≡ number r)). sym (same_number rows v.0 r v.2) ∙ clear v.0 v.1)
    (λ (e : among rows r ≡ false). e) (listed-or-not rows r)
