-- A call that adds the keystream, over any cipher: what is legal, and what a message becomes (document 02, C-16 and C-24).
use Rattle.std.specs.Prelude.{◌↔◌, ◌≡◌, List, ℕ, ◌≤◌, length, take}
use Rattle.bits.specs.Bytes.{Bytes}
use Rattle.refusals.specs.Outcome.{Outcome, success}
use Rattle.refusals.specs.Demand1.{Accepts}

-- The call succeeds exactly with what is legal and room for the message, and then writes the message with the keystream added.
pub record Crypting (legal : List ℕ → Type 0) (with_keystream : List ℕ → List ℕ) (message out : List ℕ) (o : Outcome) : Type 0 where
  pub accepts : Accepts o ↔ (legal message × (length message ≤ length out))
  pub crypts : legal message → length message ≤ length out → o ≡ success (with_keystream message) out

-- Applied twice it gives the message back: what an accepted call wrote, given to it again with room for it.
abbrev pub Twice : (crypted : (message out : List ℕ) → Outcome) → Type 0
Twice crypted =
    (message out out' : List ℕ) → Bytes message → Accepts (crypted message out) → length message ≤ length out'
    → crypted (take (length message) (crypted message out).output) out' ≡ success message out'
