-- A tag as a number.
use Rattle.std.specs.Prelude.{◌≡◌, Bool, List, ◌++◌, ℕ, ◌-◌, ◌*◌, ◌^◌, ◌<◌, drop}
use Rattle.bits.specs.Bytes.{word}
use Rattle.bits.specs.Strings.{zeros}
use Rattle.grain128a.specs.Payload.{tag_size, pad}

-- The last w of an accumulator's 64 places and zeros up to whole bytes, as a number r of that size.
pub record TagNumber (w : ℕ) (accumulator : List Bool) (r : ℕ) : Type 0 where
  pub small : r < 2 ^ (8 * tag_size w)
  pub tagged : word (8 * tag_size w) r ≡ drop (64 - w) accumulator ++ zeros (pad w)
