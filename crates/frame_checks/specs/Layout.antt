-- The layout of a sealed data field (document 02, C-11): one byte with the message's length M, M bytes of ciphertext, 8 of tag, then zeros up to
-- the smallest coded length that holds M + 9.
use Rattle.std.specs.Prelude.{◌≡◌, Bool, true, ◌&&◌, List, [], ◌∷◌, map, ℕ, suc, ◌+◌, ◌^◌, ◌≤◌, ◌<◌, eqb, get_or, take, drop}
use Rattle.length_codes.specs.LengthCodes.{coded_length, length_code}

-- Identifiers are below this, messages of at most that many bytes.
abbrev pub identifier_limit : ℕ
identifier_limit = 2 ^ 29

abbrev pub message_limit : ℕ
message_limit = 55

-- What a field has beside ciphertext and filler: M and the tag.
abbrev pub overhead : ℕ
overhead = 9

-- The code and the size of the field of a message of m bytes. Over 55 bytes there is no field: the code is none, and the size 0.
abbrev pub field_code : (m : ℕ) → ℕ
field_code m = length_code (m + overhead)

abbrev pub field_size : (m : ℕ) → ℕ
field_size m = coded_length (field_code m)

-- M, as a field has it; that of an empty field is 0.
abbrev pub announced : (field : List ℕ) → ℕ
announced field = get_or field 0 0

-- The ciphertext and the tag of a field, and its filler.
abbrev pub sealed_part : (field : List ℕ) → List ℕ
sealed_part field = take (announced field + 8) (drop 1 field)

abbrev pub filler : (field : List ℕ) → List ℕ
filler field = drop (announced field + overhead) field

-- Whether every byte of a string is zero.
unfoldable pub zero_bytes : List ℕ → Bool
zero_bytes [] = true
zero_bytes (b ∷ s) = eqb b 0 && zero_bytes s

-- The codes of fields: those of some lengths; for each legal length a code from 9 to 15 that holds the field, and no smaller one does; and none
-- for a message of a byte more.
pub record FieldCodes : Type 0 where
  pub examples : map field_code (3 ∷ 4 ∷ 39 ∷ 40 ∷ 55 ∷ []) ≡ 9 ∷ 10 ∷ 14 ∷ 15 ∷ 15 ∷ []
  pub least : (m : ℕ) → m ≤ message_limit → 9 ≤ field_code m
  pub most : (m : ℕ) → m ≤ message_limit → field_code m ≤ 15
  pub holds : (m : ℕ) → m ≤ message_limit → m + overhead ≤ field_size m
  pub within : (m : ℕ) → m ≤ message_limit → field_size m ≤ 64
  pub smallest : (m code : ℕ) → m ≤ message_limit → code < field_code m → coded_length code < m + overhead
  pub beyond : field_code (suc message_limit) ≡ 16
