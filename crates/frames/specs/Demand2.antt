-- Demand 2 for frames: making gives the field of the definition; reading accepts exactly what some message makes.
use Rattle.std.specs.Prelude.{◌≡◌, ◌↔◌, List, ℕ, ◌≤◌, length}
use Rattle.bits.specs.Bytes.{Bytes}
use Rattle.refusals.specs.Outcome.{Outcome, success}
use Rattle.refusals.specs.Demand1.{Accepts}
use Rattle.machine.specs.declared.edition.Edition.{Edition}
use Rattle.frame_checks.specs.Common.{Common}
use Rattle.frame_checks.specs.Layout.{message_limit, field_code, field_size}
use Rattle.frames.specs.Field.{data_field}

pub record Legal (key nonce : List ℕ) (identifier : ℕ) (message : List ℕ) : Type 0 where
  pub common : Common key nonce identifier
  pub message_fits : length message ≤ message_limit

-- The message, legal with its key, nonce and identifier, makes this very code and data field.
pub record Makes (e : Edition) (key nonce : List ℕ) (identifier code : ℕ) (message field : List ℕ) : Type 0 where
  pub is_bytes : Bytes message
  pub legal : Legal key nonce identifier message
  pub its_code : field_code (length message) ≡ code
  pub made : data_field e key nonce identifier message ≡ field

-- Making succeeds exactly with what is legal and room for the whole field, and then writes the field.
pub record Making (e : Edition) (key nonce : List ℕ) (identifier : ℕ) (message out : List ℕ) (o : Outcome) : Type 0 where
  pub accepts : Accepts o ↔ (Legal key nonce identifier message × (field_size (length message) ≤ length out))
  pub makes : Legal key nonce identifier message → field_size (length message) ≤ length out → o ≡ success (data_field e key nonce identifier message) out

-- Reading accepts exactly when some message makes this very identifier, code and field, and there is room for it. It returns that message, and
-- there is only one.
pub record Demand2 (e : Edition) (key nonce : List ℕ) (identifier code : ℕ) (field out : List ℕ) (o : Outcome) : Type 0 where
  pub accepts : Accepts o ↔ ((m : List ℕ) × Makes e key nonce identifier code m field × (length m ≤ length out))
  pub returns : (m : List ℕ) → Makes e key nonce identifier code m field → length m ≤ length out → o ≡ success m out
  pub unique : (m n : List ℕ) → Makes e key nonce identifier code m field → Makes e key nonce identifier code n field → m ≡ n
