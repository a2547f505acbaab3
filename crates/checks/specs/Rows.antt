-- The rows of sealing and opening (document 01, "When the box says no"; document 02, C-18).
use Rattle.std.specs.Prelude.{Bool, not, List, [], ◌∷◌, ℕ, eqb, ltb, length}
use Rattle.refusals.specs.declared.Refusal.{Refusal}
use Rattle.refusals.specs.declared.Refusal.TheVariants.{KeySize, NonceSize, AdTooLong, MessageTooLong, SealedTooShort, OutputTooShort, TagDiffers, BlankKey}
use Rattle.refusals.specs.Refusals.{Row, ◌when◌, among}
use Rattle.key.specs.Sizes.{key_size, nonce_size}
use Rattle.key.specs.BlankKey.{is_blank}

-- The rows, in their order, where the AD has a limit. Rows 1, 2, 15 and 3 are the same for both calls; for the others a call says whether they apply.
unfoldable pub table : (limit : ℕ) → (key nonce ad : List ℕ) → (too_long too_short no_room wrong_tag : Bool) → List Row
table limit key nonce ad too_long too_short no_room wrong_tag =
    (KeySize when not (eqb (length key) key_size))
    ∷ (NonceSize when not (eqb (length nonce) nonce_size))
    ∷ (BlankKey when is_blank key)
    ∷ (AdTooLong when ltb limit (length ad))
    ∷ (MessageTooLong when too_long)
    ∷ (SealedTooShort when too_short)
    ∷ (OutputTooShort when no_room)
    ∷ (TagDiffers when wrong_tag)
    ∷ []

-- When the row of each refusal applies.
abbrev pub rows : (limit : ℕ) → (key nonce ad : List ℕ) → (too_long too_short no_room wrong_tag : Bool) → Refusal → Bool
rows limit key nonce ad too_long too_short no_room wrong_tag = among (table limit key nonce ad too_long too_short no_room wrong_tag)
