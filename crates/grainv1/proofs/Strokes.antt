-- Sixteen clocks of Grain v1 on words.
-- Assumes nothing.
use mathlib.Core.Path.{◌≡◌, refl, ap, ◌∙◌}
use mathlib.Core.Bool.{Bool, false}
use mathlib.Core.List.{List, [], ◌++◌}
use Prim.Native.Nat.{ℕ, ◌/◌, ◌^◌, ◌<◌}
use lib.Bits.{bit_xor}
use lib.Dec.{lit<, lit≤}
use lib.ListN.{drop}
use Rattle.bits.specs.Bytes.{bit, word}
use Rattle.bits.specs.Strings.{places}
use Rattle.bits.specs.Times.{times}
use Rattle.bits.proofs.Lowest.{bit-xor, bit-and}
use Rattle.bits.proofs.Moved.{word-zero}
use Rattle.bits.proofs.Slides.{places-zeros}
use Rattle.generators.specs.Algebra.{Algebra, single, words}
use Rattle.generators.specs.Functions.{Kept, Taps}
use Rattle.generators.specs.Generator.{plain, fed_back}
use Rattle.generators.specs.Strokes.{listed, output_at, stroked}
use Rattle.generators.proofs.ClocksStroked.{plain-stroked, fed_back-stroked}
use Rattle.generators.proofs.FunctionBits.{outputs-listed, lfsr_bits_listed, nfsr_bits_listed}
use Rattle.generators.proofs.Listed.{places-listed}
use Rattle.generators.specs.Windows.{Windows}
use Rattle.grainv1.specs.declared.registers.Registers.{Registers}
use Rattle.grainv1.specs.Functions.{functions, grainv1, z, L, F}
use Rattle.grainv1.specs.Words.{register, generator_of, window}
use Rattle.grainv1.proofs.Words.{windows, register-moved, words-sized}

-- What keeps sums and products keeps the functions.
functions_kept : {A B : Type 0} (over : Algebra A) (under : Algebra B) (f : A → B)
    → ((a b : A) → f (over.sum a b) ≡ under.sum (f a) (f b)) → ((a b : A) → f (over.product a b) ≡ under.product (f a) (f b)) → Kept (functions over) (functions under) f
functions_kept over under f sums products = record { linear = λ s. simp sums; nonlinear = λ b. simp (sums, products); output = λ s b. simp (sums, products) }

bits_kept : (j : ℕ) → Kept (functions words) grainv1 (bit j)
bits_kept j = functions_kept words single (bit j) (bit-xor j) (bit-and j)

-- No tap lies above place 64.
pub taps : Taps 65 grainv1
taps = record { linear = λ s. refl; nonlinear = λ b. refl; output = λ s b. refl }

-- The words of the registers g, with those of their places from 16 on.
module _ (g : Registers) (s16 b16 : ℕ)
    (es : word 64 s16 ≡ drop 16 (word 64 g.lfsr0) ++ word 16 g.lfsr1)
    (eb : word 64 b16 ≡ drop 16 (word 64 g.nfsr0) ++ word 16 g.nfsr1) where
  pub outputs-words : word 16 (z words (window g.lfsr0 s16) (window g.nfsr0 b16)) ≡ listed 16 (output_at grainv1 (generator_of g))
  unfolding generator_of
  outputs-words = outputs-listed bits_kept taps 16 (generator_of g) (windows g.lfsr0 g.lfsr1 s16 es) (windows g.nfsr0 g.nfsr1 b16 eb)

  pub stroke_words : (x : ℕ)
      → generator_of record {
        lfsr0 = s16;
        lfsr1 = bit_xor (L words (window g.lfsr0 s16)) x;
        nfsr0 = b16;
        nfsr1 = bit_xor (bit_xor (g.lfsr0 / 2 ^ 48) (F words (window g.nfsr0 b16))) x;
      }
      ≡ stroked grainv1 16 (places (word 16 x)) (places (word 16 x)) (generator_of g)
  unfolding generator_of stroked
  stroke_words x = λ i. record {
    lfsr = register-moved g.lfsr0 g.lfsr1 s16 es _ (lfsr_bits_listed bits_kept taps 16 (generator_of g) x lfsr) i;
    nfsr = register-moved g.nfsr0 g.nfsr1 b16 eb _ (nfsr_bits_listed bits_kept taps 16 (generator_of g) (g.lfsr0 / 2 ^ 48) x (λ k h. lfsr.shows 0 k (lit< tt) h) (windows g.nfsr0 g.nfsr1 b16 eb)) i;
  }
    where
      lfsr : Windows 16 65 (register g.lfsr0 g.lfsr1) (window g.lfsr0 s16)
      lfsr = windows g.lfsr0 g.lfsr1 s16 es

-- With nothing added, and with the output fed back.
pub plain-words : (g : Registers) → stroked grainv1 16 (places (word 16 0)) (places (word 16 0)) (generator_of g) ≡ times 16 (plain grainv1) (generator_of g)
plain-words g = plain-stroked grainv1 80 65 taps (lit< tt) 16 (generator_of g) (lit≤ tt) (words-sized g) (places (word 16 0)) (places (word 16 0)) (λ i l. none i) (λ i l. none i)
  where
    none : (i : ℕ) → places (word 16 0) i ≡ false
    none i = ap (λ (s : List Bool). places s i) (word-zero 16) ∙ places-zeros [] 16 i

pub fed_back-words : (g : Registers) (y : ℕ) → word 16 y ≡ listed 16 (output_at grainv1 (generator_of g))
    → stroked grainv1 16 (places (word 16 y)) (places (word 16 y)) (generator_of g) ≡ times 16 (fed_back grainv1) (generator_of g)
fed_back-words g y e = fed_back-stroked grainv1 80 65 taps (lit< tt) 16 (generator_of g) (lit≤ tt) (words-sized g) (places (word 16 y)) (places (word 16 y)) fed fed
  where
    fed : (i : ℕ) → i < 16 → places (word 16 y) i ≡ output_at grainv1 (generator_of g) i
    fed i l = ap (λ (s : List Bool). places s i) e ∙ places-listed 16 (output_at grainv1 (generator_of g)) i l
