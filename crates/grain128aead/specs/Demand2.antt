-- Demand 2 on the definitions: a sealed payload is what the machine gives; opening accepts exactly what some message makes.
use Rattle.std.specs.Prelude.{◌≡◌, ◌≢◌, List, ℕ, ◌≤◌, length}
use Rattle.refusals.specs.Outcome.{Outcome}
use Rattle.tagged.specs.Demands as tagged
use Rattle.machine.specs.declared.edition.Edition.{Edition}
use Rattle.key.specs.Sizes.{key_size, nonce_size}
use Rattle.key.specs.BlankKey.{blank_key}
use Rattle.payload.specs.Sizes.{tag_size}
use Rattle.payload.specs.Payload.{payload}
use Rattle.limits.specs.Limits.{message_limit}
use Rattle.grain128aead.specs.Sizes.{ad_limit}

-- What is legal at the entry points: all sizes, and every key but the blank one (document 02, C-18).
pub record Legal (key nonce ad message : List ℕ) : Type 0 where
  pub key_sized : length key ≡ key_size
  pub nonce_sized : length nonce ≡ nonce_size
  pub key_not_blank : key ≢ blank_key
  pub ad_fits : length ad ≤ ad_limit
  pub message_fits : length message ≤ message_limit

-- The payload p is genuine for the key, the nonce and the AD: these rules make it from them and the message, all legal. The message is
-- the old one of document 01.
abbrev pub Makes : Edition → (key nonce ad message p : List ℕ) → Type 0
Makes e key nonce ad = tagged.Makes (Legal key nonce ad) (payload e key nonce ad)

-- Sealing succeeds exactly with what is legal and room for the payload, and then writes the payload.
abbrev pub Sealing : Edition → (key nonce ad message out : List ℕ) → Outcome → Type 0
Sealing e key nonce ad = tagged.Sealing (Legal key nonce ad) (payload e key nonce ad) tag_size

-- Opening accepts exactly when some message makes these very bytes, and there is room for it. It returns that message, and there is
-- only one.
abbrev pub Demand2 : Edition → (key nonce ad input out : List ℕ) → Outcome → Type 0
Demand2 e key nonce ad = tagged.Demand2 (Legal key nonce ad) (payload e key nonce ad)
