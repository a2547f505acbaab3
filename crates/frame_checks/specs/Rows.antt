-- The rows of making and of reading a frame (document 02, C-11 and C-18).
use Rattle.std.specs.Prelude.{◌≡◌, Bool, not, ◌||◌, List, [], ◌∷◌, ◌++◌, map, ℕ, eqb, leb, ltb, length}
use Rattle.refusals.specs.declared.Refusal.TheVariants.{KeySize, NonceSize, OutputTooShort, TagDiffers, IdentifierTooLarge, FrameMessageTooLong, NotCodedLength, WrongMessageLength, FillerNotZero, BlankKey}
use Rattle.refusals.specs.Refusals.{Row, ◌when◌}
use Rattle.key.specs.Sizes.{key_size, nonce_size}
use Rattle.key.specs.BlankKey.{is_blank}
use Rattle.length_codes.specs.LengthCodes.{is_code, coded_length}
use Rattle.frame_checks.specs.Layout.{identifier_limit, message_limit, field_code, field_size, announced, filler, zero_bytes}
use Rattle.frame_checks.specs.Order as order

unfoldable pub common_rows : (key nonce : List ℕ) → (identifier : ℕ) → List Row
common_rows key nonce identifier =
    (KeySize when not (eqb (length key) key_size))
    ∷ (NonceSize when not (eqb (length nonce) nonce_size))
    ∷ (BlankKey when is_blank key)
    ∷ (IdentifierTooLarge when leb identifier_limit identifier)
    ∷ []

-- For a message of m bytes and an output of so many.
unfoldable pub making_rows : (key nonce : List ℕ) → (identifier m room : ℕ) → List Row
making_rows key nonce identifier m room =
    common_rows key nonce identifier
    ++ ((FrameMessageTooLong when ltb message_limit m)
    ∷ (OutputTooShort when ltb room (field_size m))
    ∷ [])

-- The code is over 15, or the data is not of the coded length.
abbrev pub not_coded : (code : ℕ) → (field : List ℕ) → Bool
not_coded code field = not (is_code code) || not (eqb (length field) (coded_length code))

-- There is no M, M is over 55, or the code is not the smallest for M + 9.
abbrev pub wrong_length : (code : ℕ) → (field : List ℕ) → Bool
wrong_length code field = eqb (length field) 0 || (ltb message_limit (announced field) || not (eqb code (field_code (announced field))))

-- A filler byte is not zero.
abbrev pub filler_not_zero : (field : List ℕ) → Bool
filler_not_zero field = not (zero_bytes (filler field))

-- For an output of so many bytes; whether the tag differs is handed in.
unfoldable pub reading_rows : (key nonce : List ℕ) → (identifier code : ℕ) → (field : List ℕ) → (room : ℕ) → (wrong_tag : Bool) → List Row
reading_rows key nonce identifier code field room wrong_tag =
    common_rows key nonce identifier
    ++ ((NotCodedLength when not_coded code field)
    ∷ (WrongMessageLength when wrong_length code field)
    ∷ (FillerNotZero when filler_not_zero field)
    ∷ (OutputTooShort when ltb room (announced field))
    ∷ (TagDiffers when wrong_tag)
    ∷ [])

-- The orders are those of the rows.
pub record Tabled : Type 0 where
  pub of_making : (key nonce : List ℕ) (identifier m room : ℕ) → map (λ row. row.refusal) (making_rows key nonce identifier m room) ≡ order.making
  pub of_reading : (key nonce : List ℕ) (identifier code : ℕ) (field : List ℕ) (room : ℕ) (wrong_tag : Bool)
      → map (λ row. row.refusal) (reading_rows key nonce identifier code field room wrong_tag) ≡ order.reading
