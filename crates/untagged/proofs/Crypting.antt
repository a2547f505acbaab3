-- Calls that add the keystream, from their rows and from what a message becomes.
-- Assumes nothing.
use mathlib.Core.Path.{◌≡◌, sym, ap, ap₂, ◌∙◌, subst}
use mathlib.Core.List.{List, ◌++◌}
use Prim.Native.Nat.{ℕ, ◌≤◌}
use lib.ListN.{length, take, drop}
use lib.Seq.{take_at}
use Rattle.bits.specs.Bytes.{Bytes}
use Rattle.refusals.specs.Refusals.{Check, passed}
use Rattle.std.specs.Prelude.{Ok}
use Rattle.refusals.specs.Outcome.{Outcome, outcome, settled, success}
use Rattle.refusals.specs.Demand1.{Accepts}
use Rattle.refusals.proofs.LastRow.{settled_passed, settled-success}
use Rattle.untagged.specs.Crypting.{Crypting, Twice}

module _ (legal : List ℕ → Type 0) (with_keystream : List ℕ → List ℕ) where
  -- Where the rows pass exactly with what is legal and room for the message.
  module _ (message out : List ℕ) (j : Check) (o : Outcome) (settles : o ≡ settled j (with_keystream message) out)
      (passes : legal message → length message ≤ length out → j ≡ passed)
      (fits : j ≡ passed → legal message × (length message ≤ length out)) where
    crypts : legal message → length message ≤ length out → o ≡ success (with_keystream message) out
    crypts l room = sym (settled-success j (with_keystream message) out settles (passes l room))

    pub crypting : Crypting legal with_keystream message out o
    crypting = record {
      accepts = (λ a. fits (settled_passed j (with_keystream message) out (subst Accepts settles a)), λ h. (_, ap (λ (u : Outcome). u.answer) (crypts h.0 h.1)));
      crypts = crypts;
    }

  -- Where the keystream keeps the length and undoes itself, and lengths alone decide what is legal.
  module _ (crypted : (message out : List ℕ) → Outcome) (crypting : (message out : List ℕ) → Crypting legal with_keystream message out (crypted message out))
      (length-added : (s : List ℕ) → length (with_keystream s) ≡ length s)
      (added_twice : (s : List ℕ) → Bytes s → with_keystream (with_keystream s) ≡ s)
      (as_long : (s t : List ℕ) → length t ≡ length s → legal s → legal t) where
    pub twice : Twice crypted
    twice message out out' b a room =
        let first = crypting message out in
        let l = first.accepts.0 a in
        let made = with_keystream message in
        let same = length-added message in
        ap (λ (o : Outcome). crypted (take (length message) o.output) out') (first.crypts l.0 l.1)
        ∙ ap (λ (s : List ℕ). crypted s out') (take_at made _ (length message) same)
        ∙ (crypting made out').crypts (as_long message made same l.0) (subst (λ (n : ℕ). n ≤ length out') (sym same) room)
        ∙ ap (λ (s : List ℕ). success s out') (added_twice message b)

-- What a passed call answers and leaves, where as much of the message was written as there is room for.
module _ (with_keystream : List ℕ → List ℕ) (length-added : (s : List ℕ) → length (with_keystream s) ≡ length s) (message lent : List ℕ) (j : Check) (o : Outcome)
    (settles : o ≡ settled j (with_keystream message) lent) where
  pub crypted-output : {out : List ℕ} → j ≡ passed → out ≡ with_keystream message ++ drop (length message) lent → outcome (Ok (length message)) out ≡ o
  crypted-output e written =
      ap₂ outcome (ap Ok (sym (length-added message))) (written ∙ ap (λ (n : ℕ). with_keystream message ++ drop n lent) (sym (length-added message)))
      ∙ settled-success j (with_keystream message) lent settles e
