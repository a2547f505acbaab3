-- A raw number written into a message, what is read back, and the range of a raw number.
use Rattle.std.specs.Prelude.{◌≡◌, ◌⊎◌, Bool, true, false, List, ◌++◌, ℕ, suc, ◌+◌, ◌-◌, ◌^◌, ◌≤◌, ◌<◌, ℤ, pos, negsuc, neg_ℤ, ◌≤ℤ◌, length, take, drop}
use Rattle.bits.specs.Bytes.{Bytes, bits, bytes, word}
use Rattle.bits.specs.Strings.{places}
use Rattle.signals.specs.Raw.{misplaced, raw}

-- The ends of the range of a width: 0 and 2 ^ width - 1, or, signed, -2 ^ (width - 1) and 2 ^ (width - 1) - 1.
abbrev pub lowest : (width : ℕ) (signed : Bool) → ℤ
lowest width false = pos 0
lowest width true = neg_ℤ (pos (2 ^ (width - 1)))

abbrev pub highest : (width : ℕ) (signed : Bool) → ℤ
highest width false = pos (2 ^ width - 1)
highest width true = pos (2 ^ (width - 1) - 1)

-- Both ends are in the range.
abbrev pub InRange : (width : ℕ) (signed : Bool) → ℤ → Type 0
InRange width signed n = (lowest width signed ≤ℤ n) × (n ≤ℤ highest width signed)

-- The number whose lowest bits are those of n in two's complement.
abbrev pub complement : (width : ℕ) (n : ℤ) → ℕ
complement width (pos n) = n
complement width (negsuc n) = 2 ^ width - suc n

-- A message with a number at the place of a signal; every other bit is the message's own.
unfoldable pub written : (message : List ℕ) (start width : ℕ) (n : ℤ) → List ℕ
written message start width n =
    bytes (length message) (take start (bits message) ++ (word width (complement width n) ++ drop (start + width) (bits message)))

-- A signal that lies in its message: reading and writing are inverse to one another, and both ends of its range are reached.
pub record ReadBack (message : List ℕ) (start width : ℕ) (signed : Bool) : Type 0 where
  pub in_range : InRange width signed (raw message start width signed)
  pub read : (n : ℤ) → InRange width signed n → raw (written message start width n) start width signed ≡ n
  pub wrote : written message start width (raw message start width signed) ≡ message
  pub lowest_reached : raw (written message start width (lowest width signed)) start width signed ≡ lowest width signed
  pub highest_reached : raw (written message start width (highest width signed)) start width signed ≡ highest width signed
  pub size : (n : ℤ) → length (written message start width n) ≡ length message
  pub is_bytes : (n : ℤ) → Bytes (written message start width n)
  pub others : (n : ℤ) (i : ℕ) → (i < start) ⊎ (start + width ≤ i) → places (bits (written message start width n)) i ≡ places (bits message) i

abbrev pub ReadsBack : Type 0
ReadsBack = (message : List ℕ) (start width : ℕ) (signed : Bool) → Bytes message → misplaced (length message) start width ≡ false → ReadBack message start width signed
