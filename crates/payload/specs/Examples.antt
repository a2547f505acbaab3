-- Document 01's starred examples, of the first edition; 3 and 4 as document 02 (C-12) has them.
use Rattle.std.specs.Prelude.{◌≡◌, Bool, true, false, ℕ, get_or, set, replicate}
use mathlib.Core.List.{List, [], ◌∷◌, map, foldl}
use Rattle.bits.specs.Bit.{digit}
use Rattle.bits.specs.Bytes.{bits}
use Rattle.bits.specs.Strings.{zeros}
use Rattle.generators.specs.Generator.{preoutput, fed_back}
use Rattle.preoutput.specs.Functions.{grain128}
use Rattle.authenticator.specs.Authenticator.{absorb}
use Rattle.machine.specs.declared.edition.Edition.TheVariants.{First}
use Rattle.startup.specs.StartUp.{loaded}
use Rattle.lengths.specs.CodedLength.{coded_length}
use Rattle.payload.specs.AuthenticatedString.{authenticated}

pub record Example : Type 0 where
  pub number : ℕ
  pub computed : List ℕ
  pub expected : List ℕ

abbrev pub digits : List Bool → List ℕ
digits = map digit

-- A register of n places in which only these are 1.
abbrev pub only : (n : ℕ) → List ℕ → List Bool
only n places = foldl (λ r k. set r k true) (zeros n) places

-- The first pre-output of start-up, then the new LFSR bit and the new NFSR bit.
abbrev pub first_clock : (key nonce : List ℕ) → List Bool
first_clock key nonce =
    preoutput grain128 (loaded (bits key) (bits nonce))
    ∷ get_or (fed_back grain128 (loaded (bits key) (bits nonce))).lfsr 127 false
    ∷ get_or (fed_back grain128 (loaded (bits key) (bits nonce))).nfsr 127 false
    ∷ []

-- The pre-output of a generator with these places at 1.
abbrev pub output_of : (s b : List ℕ) → List Bool
output_of s b = preoutput grain128 (record { lfsr = only 128 s; nfsr = only 128 b }) ∷ []

abbrev pub examples : List Example
examples =
    record { number = 1; computed = coded_length 0; expected = 0x00 ∷ [] }
    ∷ record { number = 2; computed = coded_length 127; expected = 0x7F ∷ [] }
    ∷ record { number = 3; computed = coded_length 128; expected = 0x81 ∷ 0x80 ∷ [] }
    ∷ record { number = 4; computed = coded_length 255; expected = 0x81 ∷ 0xFF ∷ [] }
    ∷ record { number = 5; computed = coded_length 256; expected = 0x82 ∷ 0x01 ∷ 0x00 ∷ [] }
    ∷ record { number = 6; computed = coded_length 4096; expected = 0x82 ∷ 0x10 ∷ 0x00 ∷ [] }
    ∷ record { number = 7; computed = digits (authenticated First [] []); expected = 0 ∷ 0 ∷ 0 ∷ 0 ∷ 0 ∷ 0 ∷ 0 ∷ 0 ∷ 1 ∷ [] }
    ∷ record {
      number = 8;
      computed = digits (authenticated First (0xA5 ∷ []) (0x3C ∷ []));
      expected = 0 ∷ 0 ∷ 0 ∷ 0 ∷ 0 ∷ 0 ∷ 0 ∷ 1 ∷ 1 ∷ 0 ∷ 1 ∷ 0 ∷ 0 ∷ 1 ∷ 0 ∷ 1 ∷ 0 ∷ 0 ∷ 1 ∷ 1 ∷ 1 ∷ 1 ∷ 0 ∷ 0 ∷ 1 ∷ [];
    }
    ∷ record { number = 9; computed = digits (first_clock (replicate 16 0x00) (replicate 12 0x00)); expected = 0 ∷ 1 ∷ 0 ∷ [] }
    ∷ record { number = 10; computed = digits (first_clock (replicate 16 0xFF) (replicate 12 0x00)); expected = 1 ∷ 0 ∷ 0 ∷ [] }
    ∷ record { number = 11; computed = digits (first_clock (replicate 16 0x00) (replicate 12 0xFF)); expected = 1 ∷ 1 ∷ 0 ∷ [] }
    ∷ record { number = 12; computed = digits (output_of (94 ∷ []) (12 ∷ 95 ∷ [])); expected = 1 ∷ [] }
    ∷ record { number = 13; computed = digits (output_of (95 ∷ []) (12 ∷ 95 ∷ [])); expected = 0 ∷ [] }
    ∷ record {
      number = 14;
      computed = digits (absorb (record { accumulator = zeros 64; register = zeros 64 }) false true).register;
      expected = digits (only 64 (63 ∷ []));
    }
    ∷ []

-- Each comes out as expected.
abbrev pub Starred : Type 0
Starred = map (λ e. e.computed) examples ≡ map (λ e. e.expected) examples
