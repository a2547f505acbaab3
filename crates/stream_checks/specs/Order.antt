-- The orders of refusals for the calls on streams (document 02, C-13, C-18 and C-20).
use Rattle.std.specs.Prelude.{◌≡◌, List, [], ◌∷◌, ◌++◌, map}
use Rattle.refusals.specs.declared.Refusal.{Refusal}
use Rattle.refusals.specs.declared.Refusal.TheVariants.{KeySize, NonceSize, AdTooLong, MessageTooLong, SealedTooShort, OutputTooShort, TagDiffers, OutOfTurn, UnsoundState, BlankKey, UnknownEdition}
use Rattle.refusals.specs.Refusals.{number}

-- Of begin.
unfoldable pub beginning : List Refusal
beginning = UnknownEdition ∷ KeySize ∷ NonceSize ∷ BlankKey ∷ AdTooLong ∷ UnsoundState ∷ []

-- Of all other calls, without the tag's.
unfoldable pub before_tag : List Refusal
before_tag = UnsoundState ∷ OutOfTurn ∷ MessageTooLong ∷ SealedTooShort ∷ OutputTooShort ∷ []

unfoldable pub others : List Refusal
others = before_tag ++ (TagDiffers ∷ [])

pub record Numbered : Type 0 where
  pub of_beginning : map number beginning ≡ 23 ∷ 1 ∷ 2 ∷ 15 ∷ 3 ∷ 14 ∷ []
  pub of_others : map number others ≡ 14 ∷ 13 ∷ 4 ∷ 5 ∷ 6 ∷ 7 ∷ []
