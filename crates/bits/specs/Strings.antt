-- Strings of bits: the place-by-place sum, and a register that moves.
use Rattle.std.specs.Prelude.{◌≡◌, ◌↔◌, ◌≢◌, Bool, true, false, List, [], ◌∷◌, ◌++◌, ℕ, get_or, drop, replicate}
use Rattle.bits.specs.Bit.{◌⊻◌}

infixl 60 ◌⊞◌
-- The sum of two strings, place by place. The shorter one is continued with zeros.
unfoldable pub ◌⊞◌ : List Bool → List Bool → List Bool
[] ⊞ t = t
(a ∷ s) ⊞ [] = a ∷ s
(a ∷ s) ⊞ (b ∷ t) = (a ⊻ b) ∷ (s ⊞ t)

-- n zeros
abbrev pub zeros : ℕ → List Bool
zeros n = replicate n false

-- A register moves one place down, and its last place takes the new bit.
abbrev pub shift {ℓ} : {A : Type ℓ} → List A → A → List A
shift r new = drop 1 r ++ (new ∷ [])

-- Every second place of a string, from the first on.
unfoldable pub evens {ℓ} : {A : Type ℓ} → List A → List A
evens [] = []
evens (a ∷ []) = a ∷ []
evens (a ∷ b ∷ s) = a ∷ evens s

-- Every second place, from the second on.
abbrev pub odds {ℓ} : {A : Type ℓ} → List A → List A
odds s = evens (drop 1 s)

-- The bits of a string by their places; past its end, zeros.
abbrev pub places : List Bool → ℕ → Bool
places s i = get_or s i false

-- The positions where two strings differ, the shorter one continued with zeros, are those at which their sum has a 1.
abbrev pub Differ : Type 0
Differ = (s t : List Bool) (i : ℕ) → (places (s ⊞ t) i ≡ true) ↔ (places s i ≢ places t i)
