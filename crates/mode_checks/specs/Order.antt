-- The orders of refusals of Grain-128a (document 02, C-16 and C-18).
use Rattle.std.specs.Prelude.{◌≡◌, List, [], ◌∷◌, ◌++◌, map}
use Rattle.refusals.specs.declared.Refusal.{Refusal}
use Rattle.refusals.specs.declared.Refusal.TheVariants.{KeySize, NonceSize, MessageTooLong, SealedTooShort, OutputTooShort, TagDiffers, BlankKey, NonceMode, TagLength}
use Rattle.refusals.specs.Refusals.{number}

-- What both modes try first.
unfoldable pub common : List Refusal
common = KeySize ∷ NonceSize ∷ BlankKey ∷ NonceMode ∷ []

-- With authentication, before the tag, and all.
unfoldable pub before_tag : List Refusal
before_tag = common ++ (TagLength ∷ MessageTooLong ∷ SealedTooShort ∷ OutputTooShort ∷ [])

unfoldable pub authenticated : List Refusal
authenticated = before_tag ++ (TagDiffers ∷ [])

-- Without.
unfoldable pub unauthenticated : List Refusal
unauthenticated = common ++ (MessageTooLong ∷ OutputTooShort ∷ [])

pub record Numbered : Type 0 where
  pub authenticated : map number authenticated ≡ 1 ∷ 2 ∷ 15 ∷ 19 ∷ 20 ∷ 4 ∷ 5 ∷ 6 ∷ 7 ∷ []
  pub unauthenticated : map number unauthenticated ≡ 1 ∷ 2 ∷ 15 ∷ 19 ∷ 4 ∷ 6 ∷ []
