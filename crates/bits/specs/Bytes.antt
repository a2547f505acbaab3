-- Bytes and words as strings of bits (document 01, "Bits, bytes and sizes").
use Rattle.std.specs.Prelude.{Bool, true, false, ◌&&◌, List, [], ◌∷◌, ◌++◌, ℕ, zero, suc, ◌+◌, ◌*◌, ◌/◌, ◌%◌, ◌^◌, ◌<◌, eqb, length, get_or, take, drop}
use Rattle.bits.specs.Bit.{digit}
use Rattle.bits.specs.Strings.{◌⊞◌}

abbrev pub is_one : ℕ → Bool
is_one zero = false
is_one (suc n) = true

-- The lowest bit of a number.
abbrev pub lowest : ℕ → Bool
lowest x = is_one (x % 2)

-- The bit of x whose weight is 2 ^ k.
abbrev pub bit : ℕ → ℕ → Bool
bit k x = lowest (x / 2 ^ k)

-- The n lowest bits of x, the highest of them first.
unfoldable pub word : ℕ → ℕ → List Bool
word zero x = []
word (suc n) x = bit n x ∷ word n x

-- The number that a string of bits spells, highest bit first.
unfoldable pub value : List Bool → ℕ
value [] = 0
value (b ∷ s) = digit b * 2 ^ length s + value s

-- A byte string is a list of numbers below 256.
abbrev pub Bytes : List ℕ → Type 0
Bytes s = (i : ℕ) → get_or s i 0 < 256

-- The bits of a byte string: bit 0 is the top bit of its first byte, bit 8 the top bit of its second byte.
unfoldable pub bits : List ℕ → List Bool
bits [] = []
bits (b ∷ s) = word 8 b ++ bits s

-- The first n bytes of a string of bits.
unfoldable pub bytes : ℕ → List Bool → List ℕ
bytes zero s = []
bytes (suc n) s = value (take 8 s) ∷ bytes n (drop 8 s)

-- Whether two byte strings are the same.
unfoldable pub same : List ℕ → List ℕ → Bool
same [] [] = true
same [] (b ∷ t) = false
same (a ∷ s) [] = false
same (a ∷ s) (b ∷ t) = eqb a b && same s t

-- A byte string with some of its bits flipped: those where the flips, one for each of its bits, have a 1.
unfoldable pub flip : List ℕ → (flips : List Bool) → List ℕ
flip s flips = bytes (length s) (bits s ⊞ flips)
