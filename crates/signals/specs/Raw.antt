-- A signal's place in a message and its raw number (document 02, C-22): "start bit, width 1 to 32, signed or not, high bit first".
use Rattle.std.specs.Prelude.{Bool, cond, ◌||◌, List, [], ◌∷◌, ℕ, ◌+◌, ◌*◌, ◌^◌, ltb, ℤ, pos, ◌-ℤ◌, length, take, drop}
use Rattle.bits.specs.Bit.{digit}
use Rattle.bits.specs.Bytes.{bits, value}

-- "width not 1 to 32, or a signal outside the message", in a message of n bytes.
abbrev pub misplaced : (n start width : ℕ) → Bool
misplaced n start width = ltb width 1 || ltb 32 width || ltb (8 * n) (start + width)

-- The bits of a signal. Bit 0 of a message is the top bit of its first byte.
abbrev pub field : (message : List ℕ) (start width : ℕ) → List Bool
field message start width = take width (drop start (bits message))

-- Two's complement: the top bit counts negative, all others as in an unsigned number.
abbrev pub twos_complement : List Bool → ℤ
twos_complement [] = pos 0
twos_complement (b ∷ s) = pos (value s) -ℤ pos (digit b * 2 ^ length s)

-- The number that the bits of a signal are, signed or not.
abbrev pub number : (signed : Bool) → List Bool → ℤ
number signed s = cond signed (twos_complement s) (pos (value s))

abbrev pub raw : (message : List ℕ) (start width : ℕ) (signed : Bool) → ℤ
raw message start width signed = number signed (field message start width)
