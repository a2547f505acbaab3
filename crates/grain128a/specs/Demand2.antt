-- Demand 2 for Grain-128a, over any tag length: a sealed payload is what the machine gives; opening accepts exactly what some message makes.
use Rattle.std.specs.Prelude.{true, false, List, ℕ, ◌≤◌, length}
use Rattle.refusals.specs.Outcome.{Outcome}
use Rattle.limits.specs.Limits.{message_limit}
use Rattle.mode_checks.specs.Modes.{tag_limit}
use Rattle.mode_checks.specs.Common.{Common}
use Rattle.tagged.specs.Demands as tagged
use Rattle.untagged.specs.Crypting as untagged
use Rattle.grain128a.specs.Payload.{tag_size, payload, with_keystream}

-- What is legal with authentication.
pub record Legal (w : ℕ) (key nonce message : List ℕ) : Type 0 where
  pub common : Common key nonce true
  pub tag_some : 1 ≤ w
  pub tag_fits : w ≤ tag_limit
  pub message_fits : length message ≤ message_limit

-- The payload p is genuine for the key, the nonce and the tag length: these rules make it from them and the message, all legal.
abbrev pub Makes : (w : ℕ) → (key nonce message p : List ℕ) → Type 0
Makes w key nonce = tagged.Makes (Legal w key nonce) (payload w key nonce)

-- Sealing succeeds exactly with what is legal and room for the payload, and then writes the payload.
abbrev pub Sealing : (w : ℕ) → (key nonce message out : List ℕ) → Outcome → Type 0
Sealing w key nonce = tagged.Sealing (Legal w key nonce) (payload w key nonce) (tag_size w)

-- Opening accepts exactly when some message makes these very bytes, and there is room for it. It returns that message, and there is
-- only one.
abbrev pub Demand2 : (w : ℕ) → (key nonce input out : List ℕ) → Outcome → Type 0
Demand2 w key nonce = tagged.Demand2 (Legal w key nonce) (payload w key nonce)

-- What is legal without authentication.
pub record LegalUnauthenticated (key nonce message : List ℕ) : Type 0 where
  pub common : Common key nonce false
  pub message_fits : length message ≤ message_limit

-- The call succeeds exactly with what is legal and room for the message, and then writes the message with the keystream added.
abbrev pub Crypting : (key nonce message out : List ℕ) → Outcome → Type 0
Crypting key nonce = untagged.Crypting (LegalUnauthenticated key nonce) (with_keystream key nonce)
