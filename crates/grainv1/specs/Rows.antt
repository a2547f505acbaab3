-- The rows of Grain v1's call, and their order (document 02, C-24). A blank key is let through.
use Rattle.std.specs.Prelude.{◌≡◌, not, List, [], ◌∷◌, map, ℕ, eqb, ltb, length}
use Rattle.refusals.specs.declared.Refusal.{Refusal}
use Rattle.refusals.specs.declared.Refusal.TheVariants.{KeySize, NonceSize, MessageTooLong, OutputTooShort}
use Rattle.refusals.specs.Refusals.{Row, ◌when◌, number}
use Rattle.limits.specs.Limits.{message_limit}
use Rattle.grainv1.specs.Sizes.{key_size, nonce_size}

unfoldable pub order : List Refusal
order = KeySize ∷ NonceSize ∷ MessageTooLong ∷ OutputTooShort ∷ []

abbrev pub Numbered : Type 0
Numbered = map number order ≡ 1 ∷ 2 ∷ 4 ∷ 6 ∷ []

unfoldable pub rows : (key nonce message out : List ℕ) → List Row
rows key nonce message out =
    (KeySize when not (eqb (length key) key_size))
    ∷ (NonceSize when not (eqb (length nonce) nonce_size))
    ∷ (MessageTooLong when ltb message_limit (length message))
    ∷ (OutputTooShort when ltb (length out) (length message))
    ∷ []

-- The order is that of the rows.
abbrev pub Tabled : Type 0
Tabled = (key nonce message out : List ℕ) → map (λ row. row.refusal) (rows key nonce message out) ≡ order
