-- Words of 64 bits as bytes, one word after the other.
use Rattle.std.specs.Prelude.{List, [], ◌∷◌, ◌++◌, ℕ}
use Rattle.bits.specs.Bytes.{word, bytes}

unfoldable pub spelled_words : List ℕ → List ℕ
spelled_words [] = []
spelled_words (w ∷ ws) = bytes 8 (word 64 w) ++ spelled_words ws
