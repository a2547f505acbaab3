-- Demand 1, for the order and the rows of any call: the first row that applies is the answer.
-- Assumes nothing.
use mathlib.Core.Path.{◌≡◌, refl, ap, ◌∙◌, subst}
use mathlib.Core.Logic.{◌⊎◌, inl, inr, ⊎_elim}
use mathlib.Core.Bool.{Bool, true, false, cond}
use mathlib.Core.List.Memᴰ
use mathlib.Core.List.{List, [], ◌∷◌, ◌++◌, Memᴰ}
use Prim.Native.Nat.{ℕ}
use native.Mathlib.Omega.{arith}
use lib.ListN.{length}
use lib.Seq.{take_at, drop_at}
use Rattle.refusals.specs.declared.Refusal.{Refusal}
use Rattle.std.specs.Prelude.{Ok, Err}
use Rattle.refusals.specs.Refusals.{Answer, check, passed, Check}
use Rattle.refusals.specs.Outcome.{settled, judged}
use Rattle.refusals.specs.Demand1.{First, Clear, Decides, Demand1}

-- A check passes or fails, a call counts or refuses, and each with one refusal.
pub passed_not_failed : {c : Check} {r : Refusal} → c ≡ passed → c ≡ Err r → ⊥
passed_not_failed p q = let z : ◌≡◌ {A = ℕ} 0 1 = cc in omega arith

pub count-not-refused : {a : Answer} {n : ℕ} {r : Refusal} → a ≡ Ok n → a ≡ Err r → ⊥
count-not-refused p q = let z : ◌≡◌ {A = ℕ} 0 1 = cc in omega arith

failed_same : {c : Check} {q r : Refusal} → c ≡ Err q → c ≡ Err r → q ≡ r
failed_same p q = cc

refused-same : {a : Answer} {q r : Refusal} → a ≡ Err q → a ≡ Err r → q ≡ r
refused-same p q = cc

module _ (applies : Refusal → Bool) where
  clear_cons : (r : Refusal) (rs : List Refusal) → applies r ≡ false → Clear rs applies → Clear (r ∷ rs) applies
  clear_cons r rs e clear q h = ⊎_elim (λ (p : q ≡ r). ap applies p ∙ e) (λ (m : Memᴰ q rs). clear q m) (Memᴰ.cases_cons h)

  -- Either some row is the first of a list that applies, or none applies.
  view : (rs : List Refusal) → ((r : Refusal) × First rs applies r) ⊎ Clear rs applies
  view [] = inr (λ q h. absurd (Memᴰ.not-nil h))
  view (r ∷ rs) = go (applies r) refl (view rs)
    where
      go : (b : Bool) → applies r ≡ b → ((q : Refusal) × First rs applies q) ⊎ Clear rs applies → ((q : Refusal) × First (r ∷ rs) applies q) ⊎ Clear (r ∷ rs) applies
      go true e v = inl (r, ([], rs, refl, e, λ q h. absurd (Memᴰ.not-nil h)))
      go false e (inl v) = inl (v.0, (r ∷ v.1.0, v.1.1, ap (λ (l : List Refusal). r ∷ l) v.1.2, v.1.3, clear_cons r v.1.0 e v.1.4))
      go false e (inr clear) = inr (clear_cons r rs e clear)

  check_clear : (rs : List Refusal) → Clear rs applies → check rs applies ≡ passed
  unfolding check
  check_clear [] clear = refl
  check_clear (r ∷ rs) clear =
      ap (λ (b : Bool). cond b (Err r) (check rs applies)) (clear r (Memᴰ.head refl))
      ∙ check_clear rs (λ q h. clear q (Memᴰ.tail h))

  check-at : (earlier later : List Refusal) (r : Refusal) → applies r ≡ true → Clear earlier applies → check (earlier ++ (r ∷ later)) applies ≡ Err r
  unfolding check
  check-at [] later r e clear = ap (λ (b : Bool). cond b (Err r) (check later applies)) e
  check-at (q ∷ earlier) later r e clear =
      ap (λ (b : Bool). cond b (Err q) (check (earlier ++ (r ∷ later)) applies)) (clear q (Memᴰ.head refl))
      ∙ check-at earlier later r e (λ p h. clear p (Memᴰ.tail h))

  check-first : (rs : List Refusal) (r : Refusal) → First rs applies r → check rs applies ≡ Err r
  check-first rs r h = ap (λ (l : List Refusal). check l applies) h.2 ∙ check-at h.0 h.1 r h.3 h.4

  pub decides : (rs : List Refusal) → Decides rs applies (check rs applies)
  decides rs = ⊎_elim (λ (v : (r : Refusal) × First rs applies r). some v.0 v.1) none (view rs)
    where
      some : (r : Refusal) → First rs applies r → Decides rs applies (check rs applies)
      some r h = record {
        fails = λ q. (λ e. subst (First rs applies) (failed_same (check-first rs r h) e) h, check-first rs q);
        passes = (λ e. absurd (passed_not_failed e (check-first rs r h)), check_clear rs);
      }

      none : Clear rs applies → Decides rs applies (check rs applies)
      none clear = record {
        fails = λ q. (λ e. absurd (passed_not_failed (check_clear rs clear) e), check-first rs q);
        passes = (λ e. clear, check_clear rs);
      }

module _ (order : List Refusal) (applies : Refusal → Bool) (written out : List ℕ) where
  settled_demand1 : (c : Check) → Decides order applies c → Demand1 order applies written out (settled c written out)
  unfolding settled
  settled_demand1 (Ok u) d = record {
    refuses = λ r. (λ e. absurd (count-not-refused refl e), λ h. absurd (passed_not_failed refl ((d.fails r).1 h)));
    untouched = λ r e. absurd (count-not-refused refl e);
    accepts = (λ a. d.passes.0 refl, λ clear. (length written, refl));
    writes = λ a. refl;
    front = λ a. take_at written _ (length written) refl;
    behind = λ a. drop_at written _ (length written) refl;
  }
  settled_demand1 (Err q) d = record {
    refuses = λ r. (λ e. (d.fails r).0 (ap Err (refused-same refl e)), λ h. ap Err (failed_same refl ((d.fails r).1 h)));
    untouched = λ r e. refl;
    accepts = (λ a. absurd (count-not-refused a.1 refl), λ clear. absurd (passed_not_failed (d.passes.1 clear) refl));
    writes = λ a. absurd (count-not-refused a.1 refl);
    front = λ a. absurd (count-not-refused a.1 refl);
    behind = λ a. absurd (count-not-refused a.1 refl);
  }

  pub demand1 : Demand1 order applies written out (judged order applies written out)
  unfolding judged
  demand1 = settled_demand1 (check order applies) (decides applies order)
