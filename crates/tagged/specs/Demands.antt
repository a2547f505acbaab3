-- What sealing and opening promise, over what is legal of a message and over the payload that it makes.
use Rattle.std.specs.Prelude.{◌≡◌, ◌↔◌, List, ℕ, ◌+◌, ◌≤◌, length}
use Rattle.bits.specs.Bytes.{Bytes}
use Rattle.refusals.specs.declared.Refusal.TheVariants.{TagDiffers}
use Rattle.refusals.specs.Outcome.{Outcome, success, refused}
use Rattle.refusals.specs.Demand1.{Accepts}

-- The payload p is genuine: it is made from this message, which is legal.
pub record Makes (Legal : List ℕ → Type 0) (payload : List ℕ → List ℕ) (message p : List ℕ) : Type 0 where
  pub is_bytes : Bytes message
  pub legal : Legal message
  pub made : payload message ≡ p

-- Sealing succeeds exactly with what is legal and room for the payload, and then writes the payload.
pub record Sealing (Legal : List ℕ → Type 0) (payload : List ℕ → List ℕ) (size : ℕ) (message out : List ℕ) (o : Outcome) : Type 0 where
  pub accepts : Accepts o ↔ (Legal message × (length message + size ≤ length out))
  pub seals : Legal message → length message + size ≤ length out → o ≡ success (payload message) out

-- Opening accepts exactly when some message makes these very bytes, and there is room for it. It returns that message, and there is
-- only one.
pub record Demand2 (Legal : List ℕ → Type 0) (payload : List ℕ → List ℕ) (input out : List ℕ) (o : Outcome) : Type 0 where
  pub accepts : Accepts o ↔ ((m : List ℕ) × Makes Legal payload m input × (length m ≤ length out))
  pub returns : (m : List ℕ) → Makes Legal payload m input → length m ≤ length out → o ≡ success m out
  pub unique : (m n : List ℕ) → Makes Legal payload m input → Makes Legal payload n input → m ≡ n

-- What opening does by a condition: it accepts exactly when the condition holds, and then returns the message; otherwise it is refusal 7,
-- and the output is as lent.
pub record Verdict (condition : Type 0) (message out : List ℕ) (o : Outcome) : Type 0 where
  pub accepts : Accepts o ↔ condition
  pub returns : condition → o ≡ success message out
  pub refuses : ¬ condition → o ≡ refused TagDiffers out
