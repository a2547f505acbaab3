-- CAN FD's length codes (ISO 11898-1; document 02, C-11): 0 to 8 mean that many bytes, 9 to 15 mean 12, 16, 20, 24, 32, 48 and 64.
use Rattle.std.specs.Prelude.{Bool, cond, List, [], ◌∷◌, ℕ, suc, leb, ltb, get_or}

-- The lengths of codes 0 to 15, in bytes.
unfoldable pub coded_lengths : List ℕ
coded_lengths = 0 ∷ 1 ∷ 2 ∷ 3 ∷ 4 ∷ 5 ∷ 6 ∷ 7 ∷ 8 ∷ 12 ∷ 16 ∷ 20 ∷ 24 ∷ 32 ∷ 48 ∷ 64 ∷ []

abbrev pub is_code : ℕ → Bool
is_code code = ltb code 16

-- The length that a code means; what is no code has length 0.
unfoldable pub coded_length : (code : ℕ) → ℕ
coded_length code = get_or coded_lengths code 0

-- The place of the first length of a list that is n or more; past the end of the list where none is.
unfoldable pub first_holding : List ℕ → (n : ℕ) → ℕ
first_holding [] n = 0
first_holding (l ∷ ls) n = cond (leb n l) 0 (suc (first_holding ls n))

-- The smallest code that holds n bytes; 16, which is no code, where n is over 64.
unfoldable pub length_code : (n : ℕ) → ℕ
length_code n = first_holding coded_lengths n
