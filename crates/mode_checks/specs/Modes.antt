-- The two modes of Grain-128a, and the lengths of its tags (source document 003, sections 2.2 and 2.4).
use Rattle.std.specs.Prelude.{Bool, ◌&&◌, List, ℕ, leb}
use Rattle.bits.specs.Bytes.{bits}
use Rattle.bits.specs.Strings.{places}

-- Nonce bit 0, the top bit of its first byte: authentication is mandatory where it is 1, and forbidden where it is 0.
unfoldable pub mode_bit : (nonce : List ℕ) → Bool
mode_bit nonce = places (bits nonce) 0

-- The most bits that a tag has.
abbrev pub tag_limit : ℕ
tag_limit = 32

-- Whether there are tags of w bits.
abbrev pub is_tag_length : (w : ℕ) → Bool
is_tag_length w = leb 1 w && leb w tag_limit
