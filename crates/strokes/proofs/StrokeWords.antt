-- A stroke on words.
-- Assumes nothing.
use mathlib.Core.Path.{◌≡◌, sym, ap, ap₂, ◌∙◌}
use mathlib.Core.Bool.{Bool, true, false, cond, ◌&&◌}
use mathlib.Core.List.{List, ◌++◌, foldl}
use Prim.Native.Nat.{ℕ, ◌*◌, ◌/◌, ◌%◌, ◌^◌, ◌<◌, ◌≤◌}
use native.Mathlib.Omega.{arith}
use lib.Bits.{bit_xor}
use lib.ListN.{length, take, drop, length-append, get_or-append, get_or-replicate}
use lib.Seq.{get_or-take}
use Rattle.bits.specs.Bit.{◌⊻◌}
use Rattle.bits.specs.Bytes.{word}
use Rattle.bits.specs.Strings.{shift, places}
use Rattle.bits.proofs.Lowest.{word-xor}
use Rattle.bits.proofs.Moved.{word-zero}
use Rattle.bits.proofs.Sum.{get_or-sum}
use Rattle.bits.proofs.Word.{length-word}
use Rattle.generators.specs.Generator.{Sized}
use Rattle.generators.specs.Running.{clocks, adds}
use Rattle.generators.specs.Strokes.{listed, output_at, lfsr_bit_at, nfsr_bit_at, stroked, stroked_run}
use Rattle.generators.proofs.ClocksStroked.{at, clocks-stroked, stroked_agrees}
use Rattle.generators.proofs.Listed.{take-listed, places-listed}
use Rattle.preoutput.specs.declared.Registers.{Registers}
use Rattle.preoutput.specs.declared.Run.{Run}
use Rattle.preoutput.specs.declared.Adding.{Adding}
use Rattle.preoutput.specs.Functions.{grain128}
use Rattle.preoutput.specs.Words.{generator_of}
use Rattle.preoutput.specs.Running.{running_of, to_lfsr, to_nfsr}
use Rattle.preoutput.proofs.Functions.{taps}
use Rattle.bits.proofs.Slides.{slide_both, shifted_slide, word-take}

-- The new bits of n clocks, behind a register from place n on.
new_bits : (n : ℕ) (r : List Bool) (x : ℕ) (f : ℕ → Bool) → n ≤ 32 → n ≤ length r → word 32 x ≡ listed 32 f → drop n r ++ take n (word 64 (x * 2 ^ 32 % 2 ^ 64)) ≡ foldl shift r (listed n f)
new_bits n r x f h l e = shifted_slide n r x l h ∙ ap (λ (s : List Bool). foldl shift r (take n s)) e ∙ ap (foldl shift r) (take-listed n 32 f h)

register_slid : (n w0 w1 v0 v1 x : ℕ) (f : ℕ → Bool) → n ≤ 32 → word 64 v0 ≡ drop n (word 64 w0) ++ take n (word 64 w1)
    → word 64 v1 ≡ drop n (word 64 w1) ++ take n (word 64 (x * 2 ^ 32 % 2 ^ 64)) → word 32 x ≡ listed 32 f → word 64 v0 ++ word 64 v1 ≡ foldl shift (word 64 w0 ++ word 64 w1) (listed n f)
register_slid n w0 w1 v0 v1 x f h e0 e1 e =
    ap₂ ◌++◌ e0 e1
    ∙ slide_both n (word 64 w0) (word 64 w1) (take n (word 64 (x * 2 ^ 32 % 2 ^ 64))) (omega (arith, length-word 64 w0)) (omega (arith, length-word 64 w1))
    ∙ new_bits n (word 64 w0 ++ word 64 w1) x f h (omega (arith, length-append (word 64 w0) (word 64 w1), length-word 64 w0)) e

pub words-sized : (g : Registers) → Sized 128 (generator_of g)
unfolding generator_of
words-sized g = record {
  lfsr = omega (arith, length-append (word 64 g.lfsr0) (word 64 g.lfsr1), length-word 64 g.lfsr0, length-word 64 g.lfsr1);
  nfsr = omega (arith, length-append (word 64 g.nfsr0) (word 64 g.nfsr1), length-word 64 g.nfsr0, length-word 64 g.nfsr1);
}

-- What the code of a stroke of n clocks leaves.
pub record Slid (g : Registers) (n u v x z : ℕ) (s : Registers) : Type 0 where
  pub lfsr0 : word 64 s.lfsr0 ≡ drop n (word 64 g.lfsr0) ++ take n (word 64 g.lfsr1)
  pub lfsr1 : word 64 s.lfsr1 ≡ drop n (word 64 g.lfsr1) ++ take n (word 64 (x * 2 ^ 32 % 2 ^ 64))
  pub nfsr0 : word 64 s.nfsr0 ≡ drop n (word 64 g.nfsr0) ++ take n (word 64 g.nfsr1)
  pub nfsr1 : word 64 s.nfsr1 ≡ drop n (word 64 g.nfsr1) ++ take n (word 64 (z * 2 ^ 32 % 2 ^ 64))
  pub lfsr_bits : word 32 x ≡ listed 32 (lfsr_bit_at grain128 (generator_of g) (places (word 32 u)))
  pub nfsr_bits : word 32 z ≡ listed 32 (nfsr_bit_at grain128 (generator_of g) (places (word 32 v)))

pub stroke_words : (g : Registers) (n u v x z : ℕ) (s : Registers) → n ≤ 32 → Slid g n u v x z s → generator_of s ≡ stroked grain128 n (places (word 32 u)) (places (word 32 v)) (generator_of g)
unfolding stroked generator_of
stroke_words g n u v x z s h slid = λ i. record {
  lfsr = register_slid n g.lfsr0 g.lfsr1 s.lfsr0 s.lfsr1 x _ h slid.lfsr0 slid.lfsr1 slid.lfsr_bits i;
  nfsr = register_slid n g.nfsr0 g.nfsr1 s.nfsr0 s.nfsr1 z _ h slid.nfsr0 slid.nfsr1 slid.nfsr_bits i;
}

-- Its pre-outputs behind others.
pub outputs_slid : (n o y out : ℕ) (f : ℕ → Bool) → n ≤ 32 → word 64 out ≡ drop n (word 64 o) ++ take n (word 64 (y * 2 ^ 32 % 2 ^ 64)) → word 32 y ≡ listed 32 f
    → word 64 out ≡ foldl shift (word 64 o) (listed n f)
outputs_slid n o y out f h e ey = e ∙ new_bits n (word 64 o) y f h (omega (arith, length-word 64 o)) ey

-- The 32 bits that clocks add, from words: of the pre-outputs to come, and of the first places of the words in turn.
module _ (fed : Bool) (y w0 w1 f : ℕ) (out : ℕ → Bool) (ey : word 32 y ≡ listed 32 out) (ef : f ≡ cond fed y 0) where
  fed_place : (i : ℕ) → i < 32 → places (word 32 f) i ≡ (fed && out i)
  fed_place i h = ap (λ (z : ℕ). places (word 32 z) i) ef ∙ go fed
    where
      go : (b : Bool) → places (word 32 (cond b y 0)) i ≡ (b && out i)
      go true = ap (λ (s : List Bool). places s i) ey ∙ places-listed 32 out i h
      go false = ap (λ (s : List Bool). places s i) (word-zero 32) ∙ get_or-replicate 32 i false false h

  added-place : (i : ℕ) → i < 32 → places (word 32 (bit_xor f (w0 / 2 ^ 32))) i ≡ adds fed (word 64 w0 ++ word 64 w1) i (out i)
  added-place i h =
      ap (λ (s : List Bool). places s i) (word-xor 32 f (w0 / 2 ^ 32)) ∙ get_or-sum (word 32 f) (word 32 (w0 / 2 ^ 32)) i
      ∙ ap₂ ◌⊻◌ (fed_place i h)
      (ap (λ (s : List Bool). places s i) (sym (word-take 32 32 w0)) ∙ get_or-take 32 (word 64 w0) i false h ∙ sym (get_or-append (word 64 w0) (word 64 w1) false i (omega (arith, length-word 64 w0))))

pub at-once-words : (r : Run) (a : Adding) (n y f : ℕ) (s : Run) → n ≤ 32 → word 32 y ≡ listed 32 (output_at grain128 (generator_of r.registers)) → f ≡ cond a.fed y 0
    → generator_of s.registers ≡ stroked grain128 n (places (word 32 (bit_xor f (a.lfsr0 / 2 ^ 32)))) (places (word 32 (bit_xor f (a.nfsr0 / 2 ^ 32)))) (generator_of r.registers)
    → word 64 s.outputs ≡ drop n (word 64 r.outputs) ++ take n (word 64 (y * 2 ^ 32 % 2 ^ 64))
    → running_of s ≡ clocks grain128 n (to_lfsr a) (to_nfsr a) (running_of r)
unfolding running_of stroked_run to_lfsr to_nfsr
at-once-words r a n y f s h ey ef eg eo =
    (λ i. record {
      generator = (eg ∙ added) i;
      outputs = outputs_slid n r.outputs y s.outputs _ h eo ey i;
    })
    ∙ sym (clocks-stroked grain128 128 97 taps (omega arith) n (to_lfsr a) (to_nfsr a) (running_of r) (omega arith) (words-sized r.registers))
  where
    added : stroked grain128 n (places (word 32 (bit_xor f (a.lfsr0 / 2 ^ 32)))) (places (word 32 (bit_xor f (a.nfsr0 / 2 ^ 32)))) (generator_of r.registers)
        ≡ stroked grain128 n (at grain128 128 97 taps (to_lfsr a) (running_of r)) (at grain128 128 97 taps (to_nfsr a) (running_of r)) (generator_of r.registers)
    added =
        stroked_agrees grain128 n _ _ (at grain128 128 97 taps (to_lfsr a) (running_of r)) (at grain128 128 97 taps (to_nfsr a) (running_of r)) (generator_of r.registers)
        (λ i l. added-place a.fed y a.lfsr0 a.lfsr1 f _ ey ef i (omega arith))
        (λ i l. added-place a.fed y a.nfsr0 a.nfsr1 f _ ey ef i (omega arith))
