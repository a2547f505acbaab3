-- The order of refusals for sealing and for opening (document 01, "When the box says no"; document 02, C-18).
use Rattle.std.specs.Prelude.{List, [], ◌∷◌, ◌++◌}
use Rattle.refusals.specs.declared.Refusal.{Refusal}
use Rattle.refusals.specs.declared.Refusal.TheVariants.{KeySize, NonceSize, AdTooLong, MessageTooLong, SealedTooShort, OutputTooShort, TagDiffers, BlankKey}

-- The rows before the tag's, in the order in which they are tried.
unfoldable pub before_tag : List Refusal
before_tag = KeySize ∷ NonceSize ∷ BlankKey ∷ AdTooLong ∷ MessageTooLong ∷ SealedTooShort ∷ OutputTooShort ∷ []

-- The order of all rows: the tag comes last.
unfoldable pub order : List Refusal
order = before_tag ++ (TagDiffers ∷ [])
