-- Bytes whose bits are turned round.
use Rattle.std.specs.Prelude.{◌≡◌, map, reverse, ℕ, ◌*◌, ◌≤◌}
use Rattle.bits.specs.Bytes.{word, value, bytes}

-- The byte whose bits from the top down are those of b from the lowest up.
unfoldable pub turned : ℕ → ℕ
turned b = value (reverse (word 8 b))

-- Each of the k lowest bytes of r is that of w, turned; k is any number up to eight.
abbrev pub Turns : (w r : ℕ) → Type 0
Turns w r = (k : ℕ) → k ≤ 8 → bytes k (word (8 * k) r) ≡ map turned (bytes k (word (8 * k) w))
