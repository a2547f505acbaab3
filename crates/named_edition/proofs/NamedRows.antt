-- Any call with the row of the edition before its own: refusal 23, or what the call does in the edition that is named.
-- Assumes nothing.
use mathlib.Core.Path.{◌≡◌, refl, sym, ap, ◌∙◌, subst}
use mathlib.Core.Bool.{Bool, true, false, true≢false, cond, not, ◌&&◌}
use mathlib.Core.List.{List, [], ◌∷◌}
use Prim.Native.Nat.{ℕ}
use lib.Dec.{eqb}
use Rattle.refusals.specs.declared.Refusal.{Refusal}
use Rattle.refusals.specs.declared.Refusal.TheVariants.{UnknownEdition}
use Rattle.refusals.specs.Refusals.{Answer, Check, number, Row, ◌when◌, among, check}
use native.Mathlib.Omega.{arith}
use Rattle.std.specs.Prelude.{Option, Some, None, Result, Ok, Err}
use Rattle.std.specs.Option.{ok_or}
use Rattle.std.specs.Result.{IsErrAnd}
use Rattle.refusals.proofs.Returned.{handed_on}
use Rattle.refusals.specs.Outcome.{Outcome, refused, settled, judged}
use Rattle.machine.specs.declared.edition.Edition.{Edition}
use Rattle.startup.specs.Naming.{known, named}
use Rattle.startup.proofs.Naming.{names}
use Rattle.named_edition.specs.Calls.{with_edition, InNamed}

-- The edition that a number names, or refusal 23 in its place.
module _ (n : ℕ) {named_by : Option Edition} {chosen : Result Edition Refusal} (by_number : named_by ≡ cond (known n) (Some (named n)) None) (or_23 : chosen ≡ ok_or named_by UnknownEdition) where
  by_case : (b : Bool) → known n ≡ b → chosen ≡ cond b (Ok (named n)) (Err UnknownEdition)
  by_case true e = or_23 ∙ ap (λ (o : Option Edition). ok_or o UnknownEdition) (by_number ∙ ap (λ (b : Bool). cond b (Some (named n)) None) e)
  by_case false e = or_23 ∙ ap (λ (o : Option Edition). ok_or o UnknownEdition) (by_number ∙ ap (λ (b : Bool). cond b (Some (named n)) None) e)

  pub chosen-known : {v : Edition} → chosen ≡ Ok v → (known n ≡ true) × (v ≡ named n)
  chosen-known {v} is = go (known n) (by_case (known n) refl)
    where
      go : (b : Bool) → chosen ≡ cond b (Ok (named n)) (Err UnknownEdition) → (b ≡ true) × (v ≡ named n)
      go true e = grind arith
      go false e = grind arith

  pub chosen-unknown : {r : Refusal} → chosen ≡ Err r → (a : Answer) → IsErrAnd a (λ q. q ≡ r) → (known n ≡ false) × (a ≡ Err UnknownEdition)
  chosen-unknown {r} is a h = go (known n) (by_case (known n) refl)
    where
      handed : a ≡ Err r
      handed = handed_on a r h

      go : (b : Bool) → chosen ≡ cond b (Ok (named n)) (Err UnknownEdition) → (b ≡ false) × (a ≡ Err UnknownEdition)
      go true e = grind arith
      go false e = grind arith

-- Whether refusal 23 is not among those of a list.
abbrev pub without23 : List Refusal → Bool
without23 [] = true
without23 (r ∷ rs) = not (eqb 23 (number r)) && without23 rs

-- To these the row of the edition is nothing.
passed_by : (b : Bool) (rows : List Row) (rs : List Refusal) → without23 rs ≡ true → check rs (among ((UnknownEdition when b) ∷ rows)) ≡ check rs (among rows)
unfolding check among
passed_by b rows [] h = refl
passed_by b rows (r ∷ rs) h = go (eqb 23 (number r)) h (passed_by b rows rs)
  where
    go : (t : Bool) → (not t && without23 rs) ≡ true → (without23 rs ≡ true → check rs (among ((UnknownEdition when b) ∷ rows)) ≡ check rs (among rows))
        → cond (cond t b (among rows r)) (Err r) (check rs (among ((UnknownEdition when b) ∷ rows))) ≡ cond (among rows r) (Err r) (check rs (among rows))
    go true h rest = absurd (true≢false (sym h))
    go false h rest = ap (cond (among rows r) (Err r)) (rest h)

module _ (rs : List Refusal) (others : without23 rs ≡ true) (n : ℕ) (rows : List Row) (written out : List ℕ) where
  -- What the call comes to.
  abbrev pub named_outcome : Outcome
  named_outcome = judged (UnknownEdition ∷ rs) (among (with_edition n rows)) written out

  -- The row of the edition is tried first, and behind it the call goes on as it does without one.
  by_known : (b : Bool) → known n ≡ b → named_outcome ≡ cond (not b) (refused UnknownEdition out) (judged rs (among rows) written out)
  unfolding judged settled check among
  by_known true e =
      ap (λ (d : Bool). settled (cond (not d) (Err UnknownEdition) (check rs (among (with_edition n rows)))) written out) e
      ∙ ap (λ (c : Check). settled c written out) (passed_by (not (known n)) rows rs others)
  by_known false e = ap (λ (d : Bool). settled (cond (not d) (Err UnknownEdition) (check rs (among (with_edition n rows)))) written out) e

  pub unknown : known n ≡ false → refused UnknownEdition out ≡ named_outcome
  unknown e = sym (by_known false e)

  pub goes_on : known n ≡ true → judged rs (among rows) written out ≡ named_outcome
  goes_on e = sym (by_known true e)

  -- What holds of a call in each edition holds of it in the one that is named.
  pub in_named : (call : Edition → Outcome) → call (named n) ≡ judged rs (among rows) written out
      → (P : Edition → Outcome → Type 0) → ((e : Edition) → P e (call e)) → InNamed n (λ e. P e named_outcome)
  in_named call is P holds e h =
      subst (P e) (ap call (sym ((names n).its e h)) ∙ is ∙ goes_on ((names n).knows.1 (e, h))) (holds e)
