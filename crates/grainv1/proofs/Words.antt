-- Registers of 80 places on words, and their windows.
-- Assumes nothing.
use mathlib.Core.Path.{◌≡◌, sym, ap, ap₂, ◌∙◌}
use mathlib.Core.Bool.{Bool}
use mathlib.Core.List.{List, ◌++◌, foldl}
use Prim.Native.Nat.{ℕ, suc, ◌+◌, ◌-◌, ◌*◌, ◌%◌, ◌^◌, ◌<◌, ◌≤◌}
use native.Mathlib.Decide.{dec_lt}
use native.Mathlib.Nat.{mod-lt, mod-mod}
use native.Mathlib.Omega.{arith}
use borrow.Author.Tests.{lt-ltb, le-ltb}
use lib.Bits.{bit_or}
use lib.ListN.{length, take, drop, length-append}
use lib.Pow.{pow_pos}
use lib.Seq.{take_at, take_all, drop-append-le}
use Rattle.bits.specs.Bytes.{bit, word}
use Rattle.bits.specs.Strings.{shift, places}
use Rattle.bits.proofs.Moved.{word-or}
use Rattle.bits.proofs.Shift.{shifted}
use Rattle.bits.proofs.Word.{length-word, word_agrees, word-append, word-drop}
use Rattle.generators.specs.Generator.{Sized}
use Rattle.generators.specs.Windows.{Windows}
use Rattle.generators.proofs.Windows.{window-place}
use Rattle.grainv1.specs.declared.registers.Registers.{Registers}
use Rattle.grainv1.specs.Words.{register, generator_of, window}

pub moved_word : (w v : ℕ) → word 64 (bit_or (w * 2 ^ 16 % 2 ^ 64) (v % 2 ^ 16)) ≡ drop 16 (word 64 w) ++ word 16 v
moved_word w v =
    word-or 48 16 w (v % 2 ^ 16) (mod-lt v (pow_pos 16)) ∙ word-append 48 16 w (v % 2 ^ 16) (mod-lt v (pow_pos 16))
    ∙ ap₂ ◌++◌ (sym (word-drop 16 48 w)) (word_agrees 16 (v % 2 ^ 16) v (mod-mod v (2 ^ 16)))

pub length-register : (w v : ℕ) → length (register w v) ≡ 80
length-register w v = omega (arith, length-append (word 64 w) (word 16 v), length-word 64 w, length-word 16 v)

pub words-sized : (g : Registers) → Sized 80 (generator_of g)
unfolding generator_of
words-sized g = record { lfsr = length-register g.lfsr0 g.lfsr1; nfsr = length-register g.nfsr0 g.nfsr1 }

-- A register whose word 0 is w, whose word 1 is v, and whose places from 16 on are w16.
module _ (w v w16 : ℕ) (e : word 64 w16 ≡ drop 16 (word 64 w) ++ word 16 v) where
  from_16 : drop 16 (register w v) ≡ word 64 w16
  from_16 = drop-append-le 16 (word 64 w) (word 16 v) (omega (arith, length-word 64 w)) ∙ sym e

  pub windows : Windows 16 65 (register w v) (window w w16)
  windows = record { shows = λ k i l h. elim (dec_lt k 16) [ yes low ↦ first k i low h | no high ↦ second k i (omega arith) l h ] }
    where
      first : (k i : ℕ) → k < 16 → i < 16 → bit (16 - suc i) (window w w16 k) ≡ places (register w v) (k + i)
      first k i low h =
          simp (lt-ltb k 16 low) (window-place (register w v) w 0 k 16 i (sym (take_at (word 64 w) (word 16 v) 64 (length-word 64 w))) (omega arith) (omega arith) h)

      second : (k i : ℕ) → 16 ≤ k → k < 65 → i < 16 → bit (16 - suc i) (window w w16 k) ≡ places (register w v) (k + i)
      second k i high l h =
          simp (le-ltb k 16 high)
          (window-place (register w v) w16 16 k 16 i (sym (ap (take 64) from_16 ∙ take_all 64 (word 64 w16) (omega (arith, length-word 64 w16)))) high (omega arith) h)

  -- Sixteen new bits behind them.
  pub register-moved : (x : ℕ) {new : List Bool} → word 16 x ≡ new → register w16 x ≡ foldl shift (register w v) new
  register-moved x {new} ex =
      ap₂ ◌++◌ (sym from_16) ex
      ∙ sym (shifted 16 (register w v) new (ap length (sym ex) ∙ length-word 16 x) (omega (arith, length-register w v)))
