-- Laws of the machine, over any starting state and any width w of the authenticator: lengths, what does not depend on the string, which
-- clock gives which bit, the accumulator in closed form, the sum of two accumulators, and cutting.
use Rattle.std.specs.Prelude.{◌≡◌, Bool, false, List, [], ◌∷◌, ◌++◌, ℕ, ◌+◌, ◌-◌, ◌*◌, ◌<◌, length, get_or}
use Rattle.bits.specs.Bit.{◌⊻◌}
use Rattle.bits.specs.Strings.{◌⊞◌, zeros, shift}
use Rattle.bits.specs.Times.{times}
use Rattle.generators.specs.Generator.{preoutput, plain}
use Rattle.generators.specs.Generator as generator
use Rattle.preoutput.specs.Functions.{grain128}
use Rattle.authenticator.specs.Authenticator as authenticator
use Rattle.authenticator.specs.ClosedForm.{registers_at}
use Rattle.authenticator.specs.Cutting as cutting
use Rattle.machine.specs.Machine.{State, keystream_bit, run, crypt}

-- The LFSR and the NFSR have 128 places, the accumulator and the authenticator's register w.
pub record Sized (w : ℕ) (st : State) : Type 0 where
  pub generator : generator.Sized 128 st.generator
  pub authenticator : authenticator.Sized w st.authenticator

-- Whatever the string, the registers keep their sizes, and as many bits come out as go in.
pub record Lengths (w : ℕ) (st : State) (s : List Bool) : Type 0 where
  pub state : Sized w (run st s)
  pub crypted : (sealing : Bool) → length (crypt sealing st s) ≡ length s

-- After strings of one length the LFSR and the NFSR are the same, so is the authenticator's register, and so is the keystream bit.
pub record Independent (st : State) (s t : List Bool) : Type 0 where
  pub generator : (run st s).generator ≡ (run st t).generator
  pub register : (run st s).authenticator.register ≡ (run st t).authenticator.register
  pub keystream : keystream_bit (run st s) ≡ keystream_bit (run st t)

-- The pre-output of clock k, counted from the starting state.
unfoldable pub preoutput_at : State → (k : ℕ) → Bool
preoutput_at st k = preoutput grain128 (times k (plain grain128) st.generator)

-- With i bits of the string behind it, the machine gives the pre-output of clock 2i as the keystream bit, and at the next bit its
-- register takes that of clock 2i + 1.
pub record Clocks (st : State) (s : List Bool) (m : Bool) : Type 0 where
  pub keystream : keystream_bit (run st s) ≡ preoutput_at st (2 * length s)
  pub register : (run st (s ++ (m ∷ []))).authenticator.register ≡ shift (run st s).authenticator.register (preoutput_at st (2 * length s + 1))

-- A bit that is enciphered or deciphered takes the keystream bit of its own position in the string.
abbrev pub Keystream : Type 0
Keystream =
    (sealing : Bool) (st : State) (before s : List Bool) (j : ℕ) → j < length s
    → get_or (crypt sealing (run st before) s) j false ≡ get_or s j false ⊻ preoutput_at st (2 * (length before + j))

-- The register at position i: its content just before bit i is used. No bit of the string alters it, so that i zeros serve for the
-- string before position i.
unfoldable pub register_at : State → (i : ℕ) → List Bool
register_at st i = (run st (zeros i)).authenticator.register

-- What a string adds to the accumulator is the registers at the positions whose bit is 1.
abbrev pub ClosedForm : Type 0
ClosedForm =
    (w : ℕ) (st : State) (s : List Bool) → 0 < w → Sized w st
    → (run st s).authenticator.accumulator ≡ st.authenticator.accumulator ⊞ registers_at w (register_at st) 0 s

-- The registers at all positions where two strings differ, the shorter one continued with zeros, added up: with none, w zeros.
unfoldable pub differing_registers : (w : ℕ) → State → (s t : List Bool) → List Bool
differing_registers w st s t = registers_at w (register_at st) 0 (s ⊞ t)

-- The accumulators after two strings of any lengths add up to these registers.
abbrev pub AccumulatorSum : Type 0
AccumulatorSum =
    (w : ℕ) (st : State) (s t : List Bool) → 0 < w → Sized w st
    → (run st s).authenticator.accumulator ⊞ (run st t).authenticator.accumulator ≡ differing_registers w st s t

-- The machine without the first k places of accumulator and register.
unfoldable pub cut : ℕ → State → State
cut k st = record { edition = st.edition; generator = st.generator; authenticator = cutting.cut k st.authenticator }

-- It runs as the whole one does, and gives the same keystream.
pub record Cutting (k w : ℕ) (st : State) (s : List Bool) : Type 0 where
  pub sized : Sized (w - k) (cut k st)
  pub run : cut k (run st s) ≡ run (cut k st) s
  pub crypt : (sealing : Bool) → crypt sealing (cut k st) s ≡ crypt sealing st s
