-- The machine: the pre-output generator and the authenticator, run over a string of bits (source document 000, section 2.3; document
-- 01, "Running and the tag").
use Rattle.std.specs.Prelude.{Bool, true, false, cond}
use mathlib.Core.List.{List, [], ◌∷◌, foldl}
use Rattle.bits.specs.Bit.{◌⊻◌}
use Rattle.generators.specs.Generator.{Generator, preoutput, plain}
use Rattle.preoutput.specs.Functions.{grain128}
use Rattle.authenticator.specs.Authenticator.{Authenticator, absorb}
use Rattle.machine.specs.declared.edition.Edition.{Edition}

-- The LFSR and the NFSR are the generator's, the accumulator and the register the authenticator's. The edition is carried along, so that what goes by it
-- can't be taken from another one; no clock looks at it.
pub record State : Type 0 where
  pub edition : Edition
  pub generator : Generator Bool
  pub authenticator : Authenticator

-- The pre-output of the first of a string bit's two clocks.
unfoldable pub keystream_bit : State → Bool
keystream_bit st = preoutput grain128 st.generator

-- One bit of the string, in two plain clocks. The pre-output of the second goes to the register, after the register's content has
-- been added into the accumulator if the bit is 1.
unfoldable pub step : State → Bool → State
step st m = record {
  edition = st.edition;
  generator = plain grain128 (plain grain128 st.generator);
  authenticator = absorb st.authenticator m (preoutput grain128 (plain grain128 st.generator));
}

unfoldable pub run : State → List Bool → State
run = foldl step

-- Bits with their keystream bits added: a message's when sealing, a ciphertext's when opening. The machine takes the message's bits,
-- which are those given when sealing and those that come out when opening.
unfoldable pub crypt : (sealing : Bool) → State → List Bool → List Bool
crypt sealing st [] = []
crypt sealing st (x ∷ s) = (x ⊻ keystream_bit st) ∷ crypt sealing (step st (cond sealing x (x ⊻ keystream_bit st))) s

abbrev pub encipher : State → (message : List Bool) → List Bool
encipher = crypt true

abbrev pub decipher : State → (ciphertext : List Bool) → List Bool
decipher = crypt false
