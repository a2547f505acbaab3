-- The blank key: 16 zero bytes (document 02, C-18). Start-up takes it as it takes any key; it is the ciphers' calls that refuse it.
use Rattle.std.specs.Prelude.{◌≡◌, ◌↔◌, Bool, true, List, ℕ, ◌<◌, length, get_or, replicate}
use Rattle.bits.specs.Bytes.{same}
use Rattle.key.specs.Sizes.{key_size}

unfoldable pub blank_key : List ℕ
blank_key = replicate key_size 0

-- Whether a byte string, of any length, is the blank key.
unfoldable pub is_blank : (key : List ℕ) → Bool
is_blank key = same key blank_key

-- It is exactly when it has the size of a key and each of its bytes is zero.
abbrev pub Blank : Type 0
Blank = (key : List ℕ) → (is_blank key ≡ true) ↔ ((length key ≡ key_size) × ((i : ℕ) → i < key_size → get_or key i 0 ≡ 0))
