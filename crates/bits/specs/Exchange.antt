-- Words whose bits are those of another word in other places.
use Rattle.std.specs.Prelude.{◌≡◌, cond, ℕ, ◌+◌, ◌-◌, ◌*◌, ◌^◌}
use Rattle.bits.specs.Bytes.{bit}

-- Bit i of r is bit (from i) of x.
pub record Rearranged (from : ℕ → ℕ) (x r : ℕ) : Type 0 where
  pub taken : (i : ℕ) → bit i r ≡ bit (from i) x

-- Where bit i comes from as the bits that a mask shows are exchanged with those `by` places above them.
unfoldable pub source : (mask by i : ℕ) → ℕ
source mask by i = cond (bit i mask) (by + i) (cond (bit i (mask * 2 ^ by)) (i - by) i)
