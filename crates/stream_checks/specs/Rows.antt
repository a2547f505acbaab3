-- The rows of the calls on streams (document 02, C-13, C-18 and C-20).
use Rattle.std.specs.Prelude.{◌≡◌, Bool, not, List, [], ◌∷◌, map, ℕ, eqb, ltb, length}
use Rattle.refusals.specs.declared.Refusal.TheVariants.{KeySize, NonceSize, AdTooLong, MessageTooLong, SealedTooShort, OutputTooShort, TagDiffers, OutOfTurn, UnsoundState, BlankKey, UnknownEdition}
use Rattle.refusals.specs.Refusals.{Row, ◌when◌}
use Rattle.key.specs.Sizes.{key_size, nonce_size}
use Rattle.key.specs.BlankKey.{is_blank}
use Rattle.stream_checks.specs.Order as order

-- The bytes of a state.
abbrev pub state_size : ℕ
state_size = 64

-- Begin, for an AD of the announced length, which has a limit, and a state of so many bytes. What the state holds is not looked at.
unfoldable pub begin_rows : (unknown : Bool) → (key nonce : List ℕ) → (announced limit size : ℕ) → List Row
begin_rows unknown key nonce announced limit size =
    (UnknownEdition when unknown)
    ∷ (KeySize when not (eqb (length key) key_size))
    ∷ (NonceSize when not (eqb (length nonce) nonce_size))
    ∷ (BlankKey when is_blank key)
    ∷ (AdTooLong when ltb limit announced)
    ∷ (UnsoundState when not (eqb size state_size))
    ∷ []

-- Every other call says of each row whether it applies. Row 5 is that of a checking tag that is not of 8 bytes.
unfoldable pub rows : (unsound out_of_turn too_long wrong_size no_room wrong_tag : Bool) → List Row
rows unsound out_of_turn too_long wrong_size no_room wrong_tag =
    (UnsoundState when unsound)
    ∷ (OutOfTurn when out_of_turn)
    ∷ (MessageTooLong when too_long)
    ∷ (SealedTooShort when wrong_size)
    ∷ (OutputTooShort when no_room)
    ∷ (TagDiffers when wrong_tag)
    ∷ []

-- The orders are those of the rows.
pub record Tabled : Type 0 where
  pub of_beginning : (unknown : Bool) (key nonce : List ℕ) (announced limit size : ℕ) → map (λ row. row.refusal) (begin_rows unknown key nonce announced limit size) ≡ order.beginning
  pub of_others : (unsound out_of_turn too_long wrong_size no_room wrong_tag : Bool) → map (λ row. row.refusal) (rows unsound out_of_turn too_long wrong_size no_room wrong_tag) ≡ order.others
