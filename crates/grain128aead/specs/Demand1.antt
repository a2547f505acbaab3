-- What demand 1 comes to for sealing and opening under the blank key and for an input too short to have a tag.
use Rattle.std.specs.Prelude.{◌≡◌, Bool, true, false, cond, List, ℕ, ◌<◌, eqb, length}
use Rattle.refusals.specs.declared.Refusal.TheVariants.{NonceSize, BlankKey}
use Rattle.refusals.specs.Outcome.{refused, judged}
use Rattle.machine.specs.declared.edition.Edition.{Edition}
use Rattle.key.specs.Sizes.{nonce_size}
use Rattle.key.specs.BlankKey.{blank_key}
use Rattle.payload.specs.Sizes.{tag_size}
use Rattle.checks.specs.Order.{order}
use Rattle.checks.specs.Rows.{rows}
use Rattle.grain128aead.specs.Sizes.{ad_limit}
use Rattle.grain128aead.specs.Calls.{sealed, opened}

-- Under the blank key both calls refuse, and leave the output as lent, whatever else is wrong: with 15, or with 2 where the nonce is not of
-- its size.
pub record UnderBlankKey (e : Edition) (nonce ad out : List ℕ) : Type 0 where
  pub sealing : (message : List ℕ) → sealed e blank_key nonce ad message out ≡ refused (cond (eqb (length nonce) nonce_size) BlankKey NonceSize) out
  pub opening : (input : List ℕ) → opened e blank_key nonce ad input out ≡ refused (cond (eqb (length nonce) nonce_size) BlankKey NonceSize) out

-- Opening an input too short to have a tag does not depend on its two parts: row 5 applies, and whatever is taken for the verdict on the
-- tag and for the message, the outcome is the same.
abbrev pub ShortInput : Type 0
ShortInput =
    (e : Edition) (key nonce ad input out : List ℕ) → length input < tag_size → (wrong_tag : Bool) (message : List ℕ)
    → opened e key nonce ad input out ≡ judged order (rows ad_limit key nonce ad false true false wrong_tag) message out
