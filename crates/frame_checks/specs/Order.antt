-- The orders of refusals for making and for reading a frame (document 02, C-11 and C-18).
use Rattle.std.specs.Prelude.{◌≡◌, List, [], ◌∷◌, ◌++◌, map}
use Rattle.refusals.specs.declared.Refusal.{Refusal}
use Rattle.refusals.specs.declared.Refusal.TheVariants.{KeySize, NonceSize, OutputTooShort, TagDiffers, IdentifierTooLarge, FrameMessageTooLong, NotCodedLength, WrongMessageLength, FillerNotZero, BlankKey}
use Rattle.refusals.specs.Refusals.{number}

-- What both begin with.
unfoldable pub common : List Refusal
common = KeySize ∷ NonceSize ∷ BlankKey ∷ IdentifierTooLarge ∷ []

unfoldable pub making : List Refusal
making = common ++ (FrameMessageTooLong ∷ OutputTooShort ∷ [])

-- The rows before the tag's.
unfoldable pub before_tag : List Refusal
before_tag = common ++ (NotCodedLength ∷ WrongMessageLength ∷ FillerNotZero ∷ OutputTooShort ∷ [])

unfoldable pub reading : List Refusal
reading = before_tag ++ (TagDiffers ∷ [])

pub record Numbered : Type 0 where
  pub of_making : map number making ≡ 1 ∷ 2 ∷ 15 ∷ 8 ∷ 9 ∷ 6 ∷ []
  pub of_reading : map number reading ≡ 1 ∷ 2 ∷ 15 ∷ 8 ∷ 10 ∷ 11 ∷ 12 ∷ 6 ∷ 7 ∷ []
