-- The machine over n bits of the string: the generator's two streams, and the authenticator over them.
-- Assumes nothing.
use mathlib.Core.Path.{◌≡◌, refl, sym, ap, ◌∙◌}
use mathlib.Core.Bool.{Bool, true, false, cond}
use mathlib.Core.List.{List, [], ◌∷◌}
use Prim.Native.Nat.{ℕ, ◌*◌, ◌%◌, ◌^◌, ◌≤◌}
use native.Mathlib.Nat.{mod-mod}
use native.Mathlib.Omega.{arith}
use lib.Bits.{bit_xor}
use Rattle.bits.specs.Bit.{digit}
use Rattle.bits.specs.Bytes.{word, lowest}
use Rattle.bits.specs.Strings.{◌⊞◌, places}
use Rattle.bits.specs.Times.{times}
use Rattle.bits.proofs.Lowest.{word-xor}
use Rattle.bits.proofs.Word.{length-word, word_agrees}
use Rattle.generators.specs.Generator.{Generator, preoutput, plain, every}
use Rattle.preoutput.specs.declared.Registers.{Registers}
use Rattle.strokes.specs.declared.streams.Streamed.{Streamed}
use Rattle.preoutput.specs.Functions.{grain128}
use Rattle.preoutput.specs.Words.{generator_of}
use Rattle.strokes.specs.Streams.{Keystreams, Streams}
use Rattle.bits.proofs.Slides.{lowest-bits}
use Rattle.authenticator.specs.declared.Tagger.{Tagger}
use Rattle.authenticator.specs.Authenticator.{absorb, add, move, absorb_all}
use Rattle.authenticator.specs.Words.{authenticator_of}
use Rattle.authenticator.proofs.ClosedForm.{absorb_all_agrees}
use Rattle.machine.specs.declared.engine.Engine.{Engine}
use Rattle.machine.specs.Machine.{State, run, step, crypt}
use Rattle.machine.specs.Engine.{state_of}
use Rattle.machine.proofs.Machine.{register_bits, register_bits_places, run-edition, run-authenticator, crypt-sum}
use Rattle.machine.proofs.Clocks.{run-clocked}

-- The engine after n bits of the string, the lowest of m, from their pairs of clocks.
pub bits-run : (n : ℕ) (e : Engine) (m : ℕ) (s : Streamed) (t : Tagger) → n ≤ 64 → Streams n (generator_of e.registers) s
    → authenticator_of t ≡ absorb_all (authenticator_of e.tagger) (word n m) (places (word n s.authentication))
    → state_of record { edition = e.edition; registers = s.registers; tagger = t } ≡ run (state_of e) (word n m)
unfolding state_of
bits-run n e m s t fits streams absorbed = λ i. record { edition = sym (run-edition st (word n m)) i; generator = ran i; authenticator = tagged i }
  where
    st : State
    st = state_of e

    ran : generator_of s.registers ≡ (run st (word n m)).generator
    ran = streams.keystreams.generator ∙ sym (run-clocked st (word n m) ∙ ap (λ (k : ℕ). times (2 * k) (plain grain128) st.generator) (length-word n m))

    tagged : authenticator_of t ≡ (run st (word n m)).authenticator
    tagged =
        absorbed ∙ ap (λ (new : List Bool). absorb_all st.authenticator (word n m) (places new)) (lowest-bits n s.authentication _ fits streams.authentication)
        ∙ sym
        (run-authenticator st (word n m)
        ∙ absorb_all_agrees st.authenticator (word n m) (register_bits st.generator) (places (every grain128 2 n (plain grain128 st.generator)))
        (λ i h. register_bits_places n i st.generator (omega (arith, length-word n m))))

-- The keystream of their clocks: the lowest bits of a word, and of its remainder.
pub bits-keystream : {p : ℕ} {g : Generator Bool} {r : Registers} {k : ℕ} (n : ℕ) → n ≤ 64 → Keystreams p n g r k → word n k ≡ every grain128 p n g
bits-keystream {k = k} n fits keystreams = lowest-bits n k _ fits keystreams.keystream

pub word_remainder : (n x : ℕ) → word n (x % 2 ^ n) ≡ word n x
word_remainder n x = word_agrees n (x % 2 ^ n) x (mod-mod x (2 ^ n))

-- n bits with their keystream bits added.
pub bits-crypt : (n : ℕ) (sealing : Bool) (e : Engine) (x k : ℕ) → word n k ≡ every grain128 2 n (generator_of e.registers) → word n (bit_xor x k) ≡ crypt sealing (state_of e) (word n x)
unfolding state_of
bits-crypt n sealing e x k keystream =
    word-xor n x k ∙ ap (λ (r : List Bool). word n x ⊞ r) keystream
    ∙ sym (crypt-sum sealing (state_of e) (word n x) ∙ ap (λ (j : ℕ). word n x ⊞ every grain128 2 j (generator_of e.registers)) (length-word n x))

-- What the machine takes: the bits given when sealing, those that come out when opening.
pub taken : (n : ℕ) (sealing b : Bool) (x y m : ℕ) → sealing ≡ b → m ≡ cond b x y → word n m ≡ cond sealing (word n x) (word n y)
taken n sealing true x y m e p = ap (word n) p ∙ sym (ap (λ (d : Bool). cond d (word n x) (word n y)) e)
taken n sealing false x y m e p = ap (word n) p ∙ sym (ap (λ (d : Bool). cond d (word n x) (word n y)) e)

-- The engine after a single bit, from its two clocks.
pub bit-run : (e : Engine) (m new : ℕ) (between after : Registers) (t : Tagger) → generator_of between ≡ plain grain128 (generator_of e.registers)
    → new ≡ digit (preoutput grain128 (generator_of between)) → generator_of after ≡ plain grain128 (generator_of between)
    → authenticator_of t ≡ absorb (authenticator_of e.tagger) (lowest m) (lowest new)
    → state_of record { edition = e.edition; registers = after; tagger = t } ≡ run (state_of e) (lowest m ∷ [])
unfolding state_of run step
bit-run e m new between after t first output second absorbed = λ i. record {
  edition = e.edition;
  generator = (second ∙ ap (plain grain128) first) i;
  authenticator =
      (absorbed
      ∙ ap (absorb (authenticator_of e.tagger) (lowest m)) (ap lowest output ∙ lowest-digit (preoutput grain128 (generator_of between)) ∙ ap (preoutput grain128) first)) i;
}
  where
    lowest-digit : (b : Bool) → lowest (digit b) ≡ b
    lowest-digit true = refl
    lowest-digit false = refl

-- The final 1 adds the register.
pub final_run : (e : Engine) → word 64 (bit_xor e.tagger.accumulator e.tagger.register) ≡ (run (state_of e) (true ∷ [])).authenticator.accumulator
unfolding state_of run step authenticator_of absorb add move
final_run e = word-xor 64 e.tagger.accumulator e.tagger.register
