-- What differs between the two editions: the order of bits in a byte, the start-up, and the clock at which running starts (the first: document
-- 01 and source document 000, section 2.2; the second: document 02, C-20). All else is the same in both.
use Rattle.std.specs.Prelude.{Bool, List, map, ℕ, length, take, drop}
use Rattle.bits.specs.Bytes.{bits, bytes, flip}
use Rattle.bits.specs.Strings.{zeros}
use Rattle.bits.specs.Times.{times}
use Rattle.bits.specs.Turned.{turned}
use Rattle.generators.specs.Generator.{Generator, fed_back, fed_back_with}
use Rattle.preoutput.specs.Functions.{grain128}
use Rattle.machine.specs.declared.edition.Edition.{Edition}
use Rattle.machine.specs.declared.edition.Edition.TheVariants.{First, Second}
use Rattle.machine.specs.Machine.{State}
use Rattle.startup.specs.StartUp.{loaded, rekeyed, preoutputs}

-- ---- what differs

-- The number by which an edition is named.
abbrev pub number : Edition → ℕ
number First = 1
number Second = 2

-- A byte string with the bits of every byte in the order in which they are taken: in the first edition from the top bit down, in the second
-- from the lowest bit up. That is the order of the bits of key, nonce, coded AD length, AD, message, ciphertext and tag.
unfoldable pub ordered : Edition → List ℕ → List ℕ
ordered First s = s
ordered Second s = map turned s

-- From the loaded registers to those before the clocks that fill accumulator and register. In the first edition clocks 0 to 255 feed the
-- pre-output back. In the second clocks 0 to 319 do; clocks 320 to 383 do too, and add key bits 64 to 127 to the new LFSR bits and key bits 0
-- to 63 to the new NFSR bits.
unfoldable pub warmed : Edition → (key : List Bool) → Generator Bool → Generator Bool
warmed First key g = times 256 (fed_back grain128) g
warmed Second key g = fed_back_with grain128 (times 320 (fed_back grain128) g) (drop 64 key) (take 64 key)

-- What the 128 clocks that fill add to the new LFSR bits: in the first edition the key, in the second nothing, so that they are plain.
unfoldable pub filling : Edition → (key : List Bool) → List Bool
filling First key = key
filling Second key = zeros (length key)

-- The clock at which running starts.
abbrev pub running_from : Edition → ℕ
running_from First = 384
running_from Second = 512

-- ---- what follows from it, by one definition for both

-- The bits of a byte string, the first n bytes of a string of bits, and a byte string with some of its bits flipped, all in the edition's order.
unfoldable pub bits_in : Edition → List ℕ → List Bool
bits_in e s = bits (ordered e s)

unfoldable pub bytes_in : Edition → ℕ → List Bool → List ℕ
bytes_in e n s = ordered e (bytes n s)

unfoldable pub flip_in : Edition → List ℕ → (flips : List Bool) → List ℕ
flip_in e s flips = ordered e (flip (ordered e s) flips)

-- The state that start-up makes. Of the 128 clocks that fill, the pre-outputs of the first 64 are the accumulator, those of the last 64 the
-- register.
unfoldable pub started : Edition → (key nonce : List Bool) → State
started e key nonce = record {
  edition = e;
  generator = rekeyed (warmed e key (loaded key nonce)) (filling e key);
  authenticator = record {
    accumulator = take 64 (preoutputs (warmed e key (loaded key nonce)) (filling e key));
    register = take 64 (drop 64 (preoutputs (warmed e key (loaded key nonce)) (filling e key)));
  };
}

-- The same from the bytes of key and nonce.
unfoldable pub initialised : Edition → (key nonce : List ℕ) → State
initialised e key nonce = started e (bits_in e key) (bits_in e nonce)
