-- Runs that hold the same are the same words.
-- Assumes nothing.
use mathlib.Core.Path.{◌≡◌, sym, ap, ◌∙◌}
use mathlib.Core.List.{◌++◌}
use Prim.Native.Nat.{ℕ, ◌^◌, ◌<◌}
use lib.ListN.{take, drop}
use lib.Seq.{take_at, drop_at}
use Rattle.bits.specs.Bytes.{word, value}
use Rattle.bits.proofs.Word.{length-word, value-word-small}
use Rattle.generators.specs.Running.{Running}
use Rattle.preoutput.specs.Words.{generator_of}
use Rattle.preoutput.specs.Running.{running_of}
use Rattle.strokes.specs.Engines.{Agree}

word_injective : (x y : ℕ) → x < 2 ^ 64 → y < 2 ^ 64 → word 64 x ≡ word 64 y → x ≡ y
word_injective x y hx hy e = sym (value-word-small 64 x hx) ∙ ap value e ∙ value-word-small 64 y hy

first_word : (x0 x1 y0 y1 : ℕ) → word 64 x0 ++ word 64 x1 ≡ word 64 y0 ++ word 64 y1 → word 64 x0 ≡ word 64 y0
first_word x0 x1 y0 y1 e = sym (take_at (word 64 x0) (word 64 x1) 64 (length-word 64 x0)) ∙ ap (take 64) e ∙ take_at (word 64 y0) (word 64 y1) 64 (length-word 64 y0)

second_word : (x0 x1 y0 y1 : ℕ) → word 64 x0 ++ word 64 x1 ≡ word 64 y0 ++ word 64 y1 → word 64 x1 ≡ word 64 y1
second_word x0 x1 y0 y1 e = sym (drop_at (word 64 x0) (word 64 x1) 64 (length-word 64 x0)) ∙ ap (drop 64) e ∙ drop_at (word 64 y0) (word 64 y1) 64 (length-word 64 y0)

pub agree : Agree
unfolding running_of generator_of
agree a b ha hb e = λ i. record {
  registers = record {
    lfsr0 = word_injective a.registers.lfsr0 b.registers.lfsr0 ha.lfsr0 hb.lfsr0 (first_word _ _ _ _ lfsr) i;
    lfsr1 = word_injective a.registers.lfsr1 b.registers.lfsr1 ha.lfsr1 hb.lfsr1 (second_word _ _ _ _ lfsr) i;
    nfsr0 = word_injective a.registers.nfsr0 b.registers.nfsr0 ha.nfsr0 hb.nfsr0 (first_word _ _ _ _ nfsr) i;
    nfsr1 = word_injective a.registers.nfsr1 b.registers.nfsr1 ha.nfsr1 hb.nfsr1 (second_word _ _ _ _ nfsr) i;
  };
  outputs = word_injective a.outputs b.outputs ha.outputs hb.outputs (ap (λ (r : Running). r.outputs) e) i;
}
  where
    lfsr : word 64 a.registers.lfsr0 ++ word 64 a.registers.lfsr1 ≡ word 64 b.registers.lfsr0 ++ word 64 b.registers.lfsr1
    lfsr = ap (λ (r : Running). r.generator.lfsr) e

    nfsr : word 64 a.registers.nfsr0 ++ word 64 a.registers.nfsr1 ≡ word 64 b.registers.nfsr0 ++ word 64 b.registers.nfsr1
    nfsr = ap (λ (r : Running). r.generator.nfsr) e
