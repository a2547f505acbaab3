-- What a call answers: by the state, by its rows, and by what is put back.
-- Assumes nothing.
use mathlib.Core.Path.{◌≡◌, refl, sym, ◌∙◌, subst}
use mathlib.Core.Bool.{true, false, cond}
use mathlib.Core.List.{List, [], ◌++◌}
use Prim.Native.Nat.{ℕ}
use lib.Dec.{eqb}
use lib.ListN.{length, drop}
use Rattle.std.specs.Prelude.{Ok, Err}
use Rattle.std.specs.Result.{IsErrAnd}
use Rattle.std.proofs.lemmas.Result.{err_from_is_err_and}
use Rattle.refusals.specs.declared.Refusal.{Refusal}
use Rattle.refusals.specs.declared.Refusal.TheVariants.{TagDiffers, UnsoundState}
use Rattle.refusals.specs.Refusals.{Answer, Check, passed}
use Rattle.refusals.specs.Signed.{capped}
use Rattle.startup.specs.Naming.{named}
use Rattle.limits.specs.Limits.{message_limit}
use Rattle.stream_checks.specs.declared.counts.Kind.{Kind}
use Rattle.stream_checks.specs.Rows.{state_size}
use Rattle.stream_state.specs.declared.Session.{Session}
use Rattle.stream_state.specs.Stream.{stream_of, clocks_so_far}
use Rattle.stream_state.specs.Layout.{written, sound}
use Rattle.streams.specs.Going.{Holds, begun}
use Rattle.streams.specs.Calls.{Call, Begin, next, produced, lent, step, called}
use Rattle.streams.specs.Demand1.{Demand1}
use Rattle.streams.proofs.Demand1.{demand1}
use Rattle.streams.proofs.Settled.{GoesOn, judgement_of, wrong_tag, state-sized, called_unsound, called_failed, called_passed, called_differs, put_step, begin_judgement, begins, begin_failed, begin_passed}

-- The three clauses of a call.
abbrev pub Answered : (c : Call) (s : List ℕ) (a : Answer) (exit out : List ℕ) → Type 0
Answered c s a exit out = record { called : step a exit out ≡ called c s; demand1 : Demand1 c s (step a exit out); fits : capped a ≡ a }

module _ (c : Call) {s : List ℕ} where
  answered : {a : Answer} {exit out : List ℕ} → step a exit out ≡ called c s → capped a ≡ a → Answered c s a exit out
  answered e fits = record { called = e; demand1 = subst (Demand1 c s) (sym e) (demand1 c s); fits = fits }

  -- A refusal that is handed on.
  handed_on : {q : Refusal} (a : Answer) → IsErrAnd a (λ r. r ≡ q) → step (Err q) s (lent c) ≡ called c s → Answered c s a s (lent c)
  handed_on a h e = let k = err_from_is_err_and a h in rw (k.1, k.2) (answered e refl)

  module _ (on : GoesOn c) where
    pub unsound : {q : Refusal} (a : Answer) → IsErrAnd a (λ r. r ≡ q) → (q ≡ UnsoundState) × (sound message_limit s ≡ false) → Answered c s a s (lent c)
    unsound a h u = handed_on a (rw u.0 at h) (called_unsound c on s u.1)

    -- The stream that the state holds, and what the rows before the tag's come to.
    module _ {x : Session} {d : Check} (h : Holds s x) (j : d ≡ judgement_of c x.counts) where
      pub failed : {q : Refusal} (a : Answer) → IsErrAnd a (λ r. r ≡ q) → d ≡ Err q → Answered c s a s (lent c)
      failed a e was = handed_on a e (called_failed c on h (sym j ∙ was))

      pub differs : d ≡ passed → wrong_tag c (stream_of x) ≡ true → Answered c s (Err TagDiffers) s (lent c)
      differs was t = answered (called_differs c on h (sym j ∙ was) t) refl

      pub goes_on : d ≡ passed → wrong_tag c (stream_of x) ≡ false → (y : Session) → stream_of y ≡ next c (stream_of x)
          → {a : Answer} {exit out : List ℕ} → out ≡ produced c (stream_of x) ++ drop (length (produced c (stream_of x))) (lent c)
          → a ≡ Ok (clocks_so_far (stream_of y)) → exit ≡ cond (eqb (length s) state_size) (written (stream_of y)) s → capped a ≡ a → Answered c s a exit out
      goes_on was t y same wrote counted stored fits = answered (put_step y s (state-sized h) same counted stored wrote ∙ called_passed c on h (sym j ∙ was) t) fits

module _ {kind : Kind} {n : ℕ} {key nonce : List ℕ} {announced : ℕ} {s : List ℕ} {d : Check} (j : d ≡ begin_judgement kind n key nonce announced s) where
  pub not_begun : {q : Refusal} (a : Answer) → IsErrAnd a (λ r. r ≡ q) → d ≡ Err q → Answered (Begin kind n key nonce announced) s a s []
  not_begun a e was = handed_on (Begin kind n key nonce announced) a e (begin_failed kind n key nonce announced s (sym j ∙ was))

  pub began : d ≡ passed → (y : Session) → stream_of y ≡ begun kind (named n) key nonce announced
      → {a : Answer} {exit : List ℕ} → a ≡ Ok (clocks_so_far (stream_of y)) → exit ≡ cond (eqb (length s) state_size) (written (stream_of y)) s → capped a ≡ a
      → Answered (Begin kind n key nonce announced) s a exit []
  began was y same counted stored fits =
      answered (Begin kind n key nonce announced) (put_step y s (begins kind n key nonce announced s (sym j ∙ was)).sized same counted stored refl ∙ begin_passed kind n key nonce announced s (sym j ∙ was)) fits
