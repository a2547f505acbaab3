-- The windows of registers in words, and the functions there.
-- Assumes nothing.
use mathlib.Core.Path.{◌≡◌, sym, ap, ◌∙◌}
use mathlib.Core.Bool.{Bool}
use mathlib.Core.List.{List, ◌++◌}
use Prim.Native.Nat.{ℕ, suc, ◌+◌, ◌-◌, ◌/◌, ◌^◌, ◌<◌, ◌≤◌}
use native.Mathlib.Decide.{dec_lt}
use native.Mathlib.Omega.{arith}
use borrow.Author.Tests.{lt-ltb, le-ltb}
use lib.Bits.{bit_xor}
use lib.ListN.{length, take, drop, length-drop}
use lib.Seq.{take_at, drop_at, take_all, drop-append-le, take-append-add}
use Rattle.bits.specs.Bytes.{bit, word}
use Rattle.bits.specs.Strings.{places}
use Rattle.bits.proofs.Lowest.{bit-xor, bit-and}
use Rattle.bits.proofs.Word.{length-word}
use Rattle.generators.specs.Algebra.{single, words}
use Rattle.generators.specs.Functions.{Kept}
use Rattle.generators.specs.Generator.{lfsr_bit}
use Rattle.generators.specs.Strokes.{listed, output_at, lfsr_bit_at, nfsr_bit_at}
use Rattle.generators.specs.Windows.{Windows}
use Rattle.generators.proofs.Windows.{window-place}
use Rattle.generators.proofs.FunctionBits as bitwise
use Rattle.preoutput.specs.declared.Registers.{Registers}
use Rattle.preoutput.specs.Functions.{F, y, functions, grain128}
use Rattle.preoutput.specs.Words.{generator_of}
use Rattle.preoutput.proofs.Functions.{functions_kept, taps}
use Rattle.strokes.specs.Windows.{window}

-- The words have a register's places from 0, from 32 and from 64 on.
abbrev both : (w0 w64 : ℕ) → List Bool
both w0 w64 = word 64 w0 ++ word 64 w64

first-places : (w0 w64 : ℕ) → word 64 w0 ≡ take 64 (drop 0 (both w0 w64))
first-places w0 w64 = sym (take_at (word 64 w0) (word 64 w64) 64 (length-word 64 w0))

middle_places : (w0 w32 w64 : ℕ) → word 64 w32 ≡ drop 32 (word 64 w0) ++ take 32 (word 64 w64) → word 64 w32 ≡ take 64 (drop 32 (both w0 w64))
middle_places w0 w32 w64 middle =
    let half : 64 ≡ length (drop 32 (word 64 w0)) + 32 = omega (arith, length-drop 32 (word 64 w0), length-word 64 w0) in
    middle
    ∙ sym
    (ap (take 64) (drop-append-le 32 (word 64 w0) (word 64 w64) (omega (arith, length-word 64 w0)))
    ∙ ap (λ (n : ℕ). take n (drop 32 (word 64 w0) ++ word 64 w64)) half
    ∙ take-append-add (drop 32 (word 64 w0)) (word 64 w64) 32)

last-places : (w0 w64 : ℕ) → word 64 w64 ≡ take 64 (drop 64 (both w0 w64))
last-places w0 w64 = sym (ap (take 64) (drop_at (word 64 w0) (word 64 w64) 64 (length-word 64 w0)) ∙ take_all 64 (word 64 w64) (omega (arith, length-word 64 w64)))

-- So each window that is tapped stands in one of them.
pub windows : (w0 w32 w64 : ℕ) → word 64 w32 ≡ drop 32 (word 64 w0) ++ take 32 (word 64 w64) → Windows 32 97 (both w0 w64) (window w0 w32 w64)
windows w0 w32 w64 middle = record { shows = shows }
  where
    shows : (k i : ℕ) → k < 97 → i < 32 → bit (32 - suc i) (window w0 w32 w64 k) ≡ places (both w0 w64) (k + i)
    shows k i h l = elim (dec_lt k 32) [ yes a ↦ first a | no a ↦ elim (dec_lt k 64) [ yes b ↦ second (omega arith) b | no b ↦ third (omega arith) ] ]
      where
        first : k < 32 → bit (32 - suc i) (window w0 w32 w64 k) ≡ places (both w0 w64) (k + i)
        first a = simp (lt-ltb k 32 a) (window-place (both w0 w64) w0 0 k 32 i (first-places w0 w64) (omega arith) (omega arith) l)

        second : 32 ≤ k → k < 64 → bit (32 - suc i) (window w0 w32 w64 k) ≡ places (both w0 w64) (k + i)
        second a b = simp (le-ltb k 32 a, lt-ltb k 64 b) (window-place (both w0 w64) w32 32 k 32 i (middle_places w0 w32 w64 middle) a (omega arith) l)

        third : 64 ≤ k → bit (32 - suc i) (window w0 w32 w64 k) ≡ places (both w0 w64) (k + i)
        third a = simp (le-ltb k 32 (omega arith), le-ltb k 64 a) (window-place (both w0 w64) w64 64 k 32 i (last-places w0 w64) a (omega arith) l)

kept : (j : ℕ) → Kept (functions words) grain128 (bit j)
kept j = functions_kept words single (bit j) (bit-xor j) (bit-and j)

-- What the functions at windows give, as lists.
module _ (g : Registers) where
  pub outputs-listed : {s b : ℕ → ℕ} → Windows 32 97 (both g.lfsr0 g.lfsr1) s → Windows 32 97 (both g.nfsr0 g.nfsr1) b
      → word 32 (y words s b) ≡ listed 32 (output_at grain128 (generator_of g))
  unfolding generator_of
  outputs-listed hs hb = bitwise.outputs-listed kept taps 32 (generator_of g) hs hb

  pub lfsr_bits_listed : {s : ℕ → ℕ} (x : ℕ) → Windows 32 97 (both g.lfsr0 g.lfsr1) s
      → word 32 (lfsr_bit (functions words) s x) ≡ listed 32 (lfsr_bit_at grain128 (generator_of g) (places (word 32 x)))
  unfolding generator_of
  lfsr_bits_listed x hs = bitwise.lfsr_bits_listed kept taps 32 (generator_of g) x hs

  pub nfsr_bits_listed : {b : ℕ → ℕ} (x : ℕ) → Windows 32 97 (both g.nfsr0 g.nfsr1) b
      → word 32 (bit_xor (bit_xor (g.lfsr0 / 2 ^ 32) (F words b)) x) ≡ listed 32 (nfsr_bit_at grain128 (generator_of g) (places (word 32 x)))
  unfolding generator_of
  nfsr_bits_listed x hb =
      bitwise.nfsr_bits_listed kept taps 32 (generator_of g) (g.lfsr0 / 2 ^ 32) x
      (λ i h. window-place (both g.lfsr0 g.lfsr1) g.lfsr0 0 0 32 i (first-places g.lfsr0 g.lfsr1) (omega arith) (omega arith) h) hb
