-- A sealed payload, the ciphertext and then the tag, and the two parts of a sealed input.
use Rattle.std.specs.Prelude.{◌≡◌, Bool, cond, not, List, [], ◌++◌, ℕ, ◌+◌, ◌-◌, ◌≤◌, ◌<◌, ltb, length, take, drop}
use Rattle.bits.specs.Bytes.{same}
use Rattle.tagged.specs.Cipher.{Cipher}

-- The tag part of a sealed input is its last bytes, as many as a tag has, and the ciphertext part all before them. Of an input of fewer bytes
-- the ciphertext part is the whole input, and the tag part is empty.
unfoldable pub ciphertext_part : (size : ℕ) → (input : List ℕ) → List ℕ
ciphertext_part size input = cond (ltb (length input) size) input (take (length input - size) input)

unfoldable pub tag_part : (size : ℕ) → (input : List ℕ) → List ℕ
tag_part size input = cond (ltb (length input) size) [] (drop (length input - size) input)

abbrev pub payload : Cipher → (message : List ℕ) → List ℕ
payload c m = c.ciphertext m ++ c.tag m

-- The message of a sealed input.
abbrev pub recovered : Cipher → (input : List ℕ) → List ℕ
recovered c input = c.deciphered (ciphertext_part c.size input)

-- The tag differs from the recomputed one.
abbrev pub tag_differs : Cipher → (input : List ℕ) → Bool
tag_differs c input = not (same (tag_part c.size input) (c.tag (recovered c input)))

-- The two parts of a sealed input of any length. Put together they are the input, so together they are as long as it; the tag part begins
-- where the ciphertext part ends, and runs to the end. It is a whole tag, or empty where the input is too short to have one.
pub record Parts (size : ℕ) (input : List ℕ) : Type 0 where
  pub together : ciphertext_part size input ++ tag_part size input ≡ input
  pub lengths : length (ciphertext_part size input) + length (tag_part size input) ≡ length input
  pub before : take (length (ciphertext_part size input)) input ≡ ciphertext_part size input
  pub behind : drop (length (ciphertext_part size input)) input ≡ tag_part size input
  pub whole : size ≤ length input → length (tag_part size input) ≡ size
  pub short : length input < size → tag_part size input ≡ []
