-- A row that is tried after all others, as the tag's is.
-- Assumes nothing.
use mathlib.Core.Path.{◌≡◌, refl, sym, ap, ◌∙◌}
use mathlib.Core.Bool.{Bool, true, false, cond}
use mathlib.Core.List.{List, [], ◌∷◌, ◌++◌, foldl-append}
use Prim.Native.Nat.{ℕ}
use Rattle.refusals.specs.declared.Refusal.{Refusal}
use Rattle.std.specs.Prelude.{Ok, Err}
use Rattle.refusals.specs.Refusals.{after, tried, check, passed, Check}
use Rattle.refusals.specs.Outcome.{Outcome, outcome, settled, refused, success}
use Rattle.refusals.specs.Demand1.{Accepts}
use Rattle.refusals.proofs.Demand1.{passed_not_failed, count-not-refused}
use Rattle.refusals.proofs.Rows.{check-in_order}

pub after_false : (c : Check) (r : Refusal) → after c r false ≡ c
after_false (Ok u) r = refl
after_false (Err q) r = refl

pub after_passed : (c : Check) (r : Refusal) (applies : Bool) → after c r applies ≡ passed → (c ≡ passed) × (applies ≡ false)
after_passed (Ok u) r true e = absurd (passed_not_failed e refl)
after_passed (Ok u) r false e = (refl, refl)
after_passed (Err q) r applies e = absurd (passed_not_failed e refl)

pub settled_passed : (c : Check) (written out : List ℕ) → Accepts (settled c written out) → c ≡ passed
unfolding settled
settled_passed (Ok u) written out a = refl
settled_passed (Err q) written out a = absurd (count-not-refused a.1 refl)

-- What is settled by a check that failed, and by one that passed.
pub settled_failed : (c : Check) (written out : List ℕ) {o : Outcome} {r : Refusal} → o ≡ settled c written out → c ≡ Err r → outcome (Err r) out ≡ o
unfolding settled
settled_failed c written out settles failed = sym (settles ∙ ap (λ (d : Check). settled d written out) failed)

pub settled-success : (c : Check) (written out : List ℕ) {o : Outcome} → o ≡ settled c written out → c ≡ passed → success written out ≡ o
unfolding settled
settled-success c written out settles passed = sym (settles ∙ ap (λ (d : Check). settled d written out) passed)

pub check-last : (rs : List Refusal) (r : Refusal) (applies : Refusal → Bool) → check (rs ++ (r ∷ [])) applies ≡ after (check rs applies) r (applies r)
check-last rs r applies =
    sym (check-in_order applies (rs ++ (r ∷ []))) ∙ foldl-append _ passed rs (r ∷ [])
    ∙ ap (λ (c : Check). after c r (applies r)) (check-in_order applies rs)

-- One more row behind others is tried after what these come to.
pub tried-last : (rows : List (Refusal × Bool)) (r : Refusal) (applies : Bool) → tried (rows ++ ((r, applies) ∷ [])) ≡ after (tried rows) r applies
tried-last [] r applies = refl
tried-last (row ∷ rows) r applies = go row.1 (tried-last rows r applies)
  where
    go : (b : Bool) → tried (rows ++ ((r, applies) ∷ [])) ≡ after (tried rows) r applies
        → cond b (Err row.0) (tried (rows ++ ((r, applies) ∷ []))) ≡ after (cond b (Err row.0) (tried rows)) r applies
    go true e = refl
    go false e = e

pub settled-last : (r : Refusal) (applies : Bool) (written out : List ℕ) → settled (after passed r applies) written out ≡ cond applies (refused r out) (success written out)
unfolding settled
settled-last r true written out = refl
settled-last r false written out = refl

-- Where an earlier row has failed, neither the last row nor what would be written matters.
pub settled_earlier : (c : Check) (r : Refusal) (applies applies' : Bool) (written written' out : List ℕ) → (c ≡ passed → ⊥)
    → settled (after c r applies) written out ≡ settled (after c r applies') written' out
unfolding settled
settled_earlier (Ok u) r applies applies' written written' out failed = absurd (failed refl)
settled_earlier (Err q) r applies applies' written written' out failed = refl
