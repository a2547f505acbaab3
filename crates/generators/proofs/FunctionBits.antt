-- The functions at windows: bit m - 1 - i of each is the function's value i clocks later.
-- Assumes nothing.
use mathlib.Core.Path.{◌≡◌, sym, ap₂, ◌∙◌}
use mathlib.Core.Bool.{Bool}
use Prim.Native.Nat.{ℕ, suc, ◌+◌, ◌-◌, ◌<◌}
use lib.Bits.{bit_xor}
use Rattle.bits.specs.Bit.{◌⊻◌}
use Rattle.bits.specs.Bytes.{bit, word}
use Rattle.bits.specs.Strings.{places}
use Rattle.bits.proofs.Lowest.{bit-xor}
use Rattle.bits.proofs.Word.{get_or-word}
use Rattle.generators.specs.Algebra.{single, words}
use Rattle.generators.specs.Functions.{Functions, Kept, Taps}
use Rattle.generators.specs.Generator.{Generator}
use Rattle.generators.specs.Strokes.{listed, output_at, lfsr_bit_at, nfsr_bit_at}
use Rattle.generators.proofs.Below.{linear_agrees, nonlinear_agrees, output_agrees}
use Rattle.generators.proofs.Listed.{listed_agrees, word-listed}
use Rattle.generators.specs.Windows.{Windows}

-- The functions over words and over single bits, all of whose taps are below place n.
module _ {on_words : Functions words} {by : Functions single} (kept : (j : ℕ) → Kept on_words by (bit j)) {n : ℕ} (taps : Taps n by) (m : ℕ) (g : Generator Bool) where
  pub outputs-listed : {s b : ℕ → ℕ} → Windows m n g.lfsr s → Windows m n g.nfsr b → word m (on_words.output s b) ≡ listed m (output_at by g)
  outputs-listed {s} {b} hs hb =
      word-listed m _ ∙ listed_agrees m _ _ (λ i h. (kept (m - suc i)).output s b ∙ output_agrees taps (λ k l. hs.shows k i l h) (λ k l. hb.shows k i l h))

  pub lfsr_bits_listed : {s : ℕ → ℕ} (x : ℕ) → Windows m n g.lfsr s → word m (bit_xor (on_words.linear s) x) ≡ listed m (lfsr_bit_at by g (places (word m x)))
  lfsr_bits_listed {s} x hs =
      word-listed m _
      ∙ listed_agrees m _ _ (λ i h. bit-xor (m - suc i) (on_words.linear s) x ∙ ap₂ ◌⊻◌ ((kept (m - suc i)).linear s ∙ linear_agrees taps (λ k l. hs.shows k i l h)) (sym (get_or-word m x i h)))

  -- Of the LFSR only the first window is seen.
  pub nfsr_bits_listed : {b : ℕ → ℕ} (first x : ℕ) → ((i : ℕ) → i < m → bit (m - suc i) first ≡ places g.lfsr (0 + i)) → Windows m n g.nfsr b
      → word m (bit_xor (bit_xor first (on_words.nonlinear b)) x) ≡ listed m (nfsr_bit_at by g (places (word m x)))
  nfsr_bits_listed {b} first x hs hb =
      word-listed m _
      ∙ listed_agrees m _ _
      (λ i h.
      bit-xor (m - suc i) (bit_xor first (on_words.nonlinear b)) x
      ∙ ap₂ ◌⊻◌ (bit-xor (m - suc i) first (on_words.nonlinear b) ∙ ap₂ ◌⊻◌ (hs i h) ((kept (m - suc i)).nonlinear b ∙ nonlinear_agrees taps (λ k l. hb.shows k i l h))) (sym (get_or-word m x i h)))
