-- The rows of Grain-128a's calls (document 02, C-16 and C-18).
use Rattle.std.specs.Prelude.{◌≡◌, Bool, true, false, not, List, [], ◌∷◌, ◌++◌, map, ℕ, eqb, length}
use Rattle.std.specs.Bool.{beq}
use Rattle.refusals.specs.declared.Refusal.TheVariants.{KeySize, NonceSize, MessageTooLong, SealedTooShort, OutputTooShort, TagDiffers, BlankKey, NonceMode, TagLength}
use Rattle.refusals.specs.Refusals.{Row, ◌when◌}
use Rattle.key.specs.Sizes.{key_size, nonce_size}
use Rattle.key.specs.BlankKey.{is_blank}
use Rattle.mode_checks.specs.Modes.{mode_bit, is_tag_length}
use Rattle.mode_checks.specs.Order as order

-- In a mode, with authentication or without: row 19 applies where the nonce is one of the other mode.
unfoldable pub common_rows : (key nonce : List ℕ) → (mode : Bool) → List Row
common_rows key nonce mode =
    (KeySize when not (eqb (length key) key_size))
    ∷ (NonceSize when not (eqb (length nonce) nonce_size))
    ∷ (BlankKey when is_blank key)
    ∷ (NonceMode when not (beq mode (mode_bit nonce)))
    ∷ []

-- With a tag of w bits. Whether rows 4 to 7 apply is the call's to say.
unfoldable pub authenticated_rows : (key nonce : List ℕ) → (w : ℕ) → (too_long too_short no_room wrong_tag : Bool) → List Row
authenticated_rows key nonce w too_long too_short no_room wrong_tag =
    common_rows key nonce true
    ++ ((TagLength when not (is_tag_length w))
    ∷ (MessageTooLong when too_long)
    ∷ (SealedTooShort when too_short)
    ∷ (OutputTooShort when no_room)
    ∷ (TagDiffers when wrong_tag)
    ∷ [])

unfoldable pub unauthenticated_rows : (key nonce : List ℕ) → (too_long no_room : Bool) → List Row
unauthenticated_rows key nonce too_long no_room = common_rows key nonce false ++ ((MessageTooLong when too_long) ∷ (OutputTooShort when no_room) ∷ [])

-- The orders are those of the rows.
pub record Tabled (key nonce : List ℕ) : Type 0 where
  pub authenticated : (w : ℕ) (too_long too_short no_room wrong_tag : Bool)
      → map (λ row. row.refusal) (authenticated_rows key nonce w too_long too_short no_room wrong_tag) ≡ order.authenticated
  pub unauthenticated : (too_long no_room : Bool) → map (λ row. row.refusal) (unauthenticated_rows key nonce too_long no_room) ≡ order.unauthenticated
