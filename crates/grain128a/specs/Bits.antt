-- The bits of bytes: the first is the top bit of the first byte (source document 003, appendix), as in the first edition of Grain-128AEAD.
use Rattle.std.specs.Prelude.{Bool, List, ℕ}
use Rattle.machine.specs.declared.edition.Edition.TheVariants.{First}
use Rattle.startup.specs.Editions.{bits_in, bytes_in, flip_in}

abbrev pub bits : List ℕ → List Bool
bits = bits_in First

-- The first n bytes of a string of bits.
abbrev pub bytes : ℕ → List Bool → List ℕ
bytes = bytes_in First

-- A byte string with some of its bits flipped.
abbrev pub flip : List ℕ → (flips : List Bool) → List ℕ
flip = flip_in First
