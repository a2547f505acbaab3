-- Answers as signed numbers.
-- Assumes nothing.
use mathlib.Core.Path.{◌≡◌, refl, ap, ◌∙◌}
use mathlib.Core.List.{List}
use Prim.Native.Nat.{ℕ, ◌^◌, ◌<◌}
use borrow.Author.Tests.{lt-ltb}
use lib.ListN.{length}
use lib.IntN.{ℤ}
use Rattle.refusals.specs.Refusals.{Answer}
use Rattle.std.specs.Prelude.{Ok, Err}
use Rattle.std.specs.Result.{IsErrAnd}
use Rattle.refusals.specs.declared.Refusal.{Refusal}
use Rattle.refusals.specs.Outcome.{Outcome, outcome, success}
use Rattle.refusals.specs.Demand1.{Accepts}
use Rattle.refusals.specs.Signed.{signed_of, capped, Returns}

-- A refusal that `?` hands on.
pub handed_on : (a : Answer) (r : Refusal) → IsErrAnd a (λ q. q ≡ r) → a ≡ Err r
handed_on (Ok n) r h = absurd h
handed_on (Err q) r h = ap Err h

-- A count that fits is not cut.
pub capped_fits : (a : Answer) → ((n : ℕ) → a ≡ Ok n → n < 2 ^ 63) → capped a ≡ a
capped_fits (Ok n) fits = simp (lt-ltb n (2 ^ 63) (fits n refl))
capped_fits (Err r) fits = refl

-- The same of an outcome that is a success of fewer than 2 ^ 63 bytes wherever it accepts.
pub outcome_fits : (o : Outcome) → (Accepts o → (written out : List ℕ) × (o ≡ success written out) × (length written < 2 ^ 63)) → capped o.answer ≡ o.answer
outcome_fits o small = capped_fits o.answer fits
  where
    same_count : {a : Answer} {m n : ℕ} → a ≡ Ok m → a ≡ Ok n → m ≡ n
    same_count p q = cc

    fits : (n : ℕ) → o.answer ≡ Ok n → n < 2 ^ 63
    fits n e = let w = small (n, e) in rw (same_count e (ap (λ (u : Outcome). u.answer) w.2)) w.3

-- What an exported call returns, from what the call under it answers.
pub returned : (a : Answer) (output : List ℕ) (o : Outcome) (r : ℤ) → r ≡ signed_of (capped a) → capped a ≡ a → outcome a output ≡ o → Returns o r output
returned a output o r n fits e = record { number = n ∙ ap signed_of fits ∙ ap (λ (u : Outcome). signed_of u.answer) e; written = ap (λ (u : Outcome). u.output) e }

-- What a call leaves whose refusal `?` hands on.
pub handed_outcome : (a : Answer) {r : Refusal} {output : List ℕ} {o : Outcome} → IsErrAnd a (λ q. q ≡ r) → outcome (Err r) output ≡ o → outcome a output ≡ o
handed_outcome a {r} {output} h e = ap (λ (u : Answer). outcome u output) (handed_on a r h) ∙ e
