-- The call of Grain v1: from key, nonce, message and the lent output, byte strings of any length, to the answer and the output afterwards
-- (document 02, C-24).
use Rattle.std.specs.Prelude.{◌≡◌, List, ℕ, ◌≤◌, length}
use Rattle.refusals.specs.Refusals.{among}
use Rattle.refusals.specs.Outcome.{Outcome, judged}
use Rattle.limits.specs.Limits.{message_limit}
use Rattle.untagged.specs.Crypting as untagged
use Rattle.grainv1.specs.Sizes.{key_size, nonce_size}
use Rattle.grainv1.specs.Rows.{order, rows}
use Rattle.grainv1.specs.StartUp.{with_keystream}

unfoldable pub crypted : (key nonce message out : List ℕ) → Outcome
crypted key nonce message out = judged order (among (rows key nonce message out)) (with_keystream key nonce message) out

pub record Legal (key nonce message : List ℕ) : Type 0 where
  pub key_sized : length key ≡ key_size
  pub nonce_sized : length nonce ≡ nonce_size
  pub message_fits : length message ≤ message_limit

-- The call succeeds exactly with what is legal and room for the message, and then writes the message with the keystream added.
abbrev pub Crypting : (key nonce message out : List ℕ) → Outcome → Type 0
Crypting key nonce = untagged.Crypting (Legal key nonce) (with_keystream key nonce)

-- Applied twice it gives the message back.
abbrev pub Twice : Type 0
Twice = (key nonce : List ℕ) → untagged.Twice (crypted key nonce)
