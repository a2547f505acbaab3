-- What the published formulas ask of a bit: a zero, a sum and a product. They are written over any such algebra, so that the same
-- text speaks of single bits and of words that hold many.
use Rattle.std.specs.Prelude.{Bool, false, ◌&&◌, ℕ}
use Rattle.std.specs.Int.Bits.{bit_xor, bit_and}
use Rattle.bits.specs.Bit.{◌⊻◌}

pub record Algebra (A : Type 0) : Type 0 where
  pub zero : A
  pub sum : A → A → A
  pub product : A → A → A

-- Single bits: the sum is the exclusive-or, the product is the and.
abbrev pub single : Algebra Bool
single = record { zero = false; sum = ◌⊻◌; product = ◌&&◌ }

-- The bits of words, each by itself.
abbrev pub words : Algebra ℕ
words = record { zero = 0; sum = bit_xor; product = bit_and }
