-- The functions on words: the lowest bit of each is the function's value at the places' bits.
-- Assumes nothing.
use mathlib.Core.Path.{◌≡◌, sym, ap, ap₂, ◌∙◌, fun_ext}
use mathlib.Core.Bool.{Bool, false}
use mathlib.Core.List.{◌++◌}
use Prim.Native.Nat.{ℕ, ◌-◌, ◌/◌, ◌%◌, ◌^◌, ◌<◌, ◌≤◌}
use native.Mathlib.Decide.{dec_lt}
use native.Mathlib.Omega.{arith}
use borrow.Author.Tests.{lt-ltb, le-ltb}
use lib.Bits.{bit_xor}
use lib.ListN.{get_or, length-append, get_or-append, get_or-eq_default}
use lib.Seq.{get_or-append-add}
use Rattle.bits.specs.Bit.{◌⊻◌, digit}
use Rattle.bits.specs.Bytes.{lowest, bit, word}
use Rattle.bits.specs.Strings.{shift, places}
use Rattle.bits.proofs.Lowest.{lowest-xor, lowest-and, digit-lowest}
use Rattle.bits.proofs.Word.{length-word, get_or-word, shift-words}
use Rattle.generators.specs.Algebra.{single, words}
use Rattle.generators.specs.Functions.{Kept}
use Rattle.generators.specs.Generator.{preoutput, clock, lfsr_bit, nfsr_bit}
use Rattle.preoutput.specs.declared.Registers.{Registers}
use Rattle.preoutput.specs.Functions.{L, F, y, functions, grain128}
use Rattle.preoutput.specs.Words.{generator_of, tap}
use Rattle.preoutput.proofs.Functions.{functions_kept}

-- The lowest bit of a word moved to place k is that place's.
pub tap-place : (w0 w1 k : ℕ) → lowest (tap w0 w1 k) ≡ places (word 64 w0 ++ word 64 w1) k
tap-place w0 w1 k = elim (dec_lt k 64) [ yes h ↦ first h | no h ↦ elim (dec_lt k 128) [ yes l ↦ second (omega arith) l | no l ↦ none (omega arith) ] ]
  where
    first : k < 64 → lowest (tap w0 w1 k) ≡ get_or (word 64 w0 ++ word 64 w1) k false
    first h =
        simp (lt-ltb k 64 h)
        (ap (λ (n : ℕ). bit n w0) (omega arith) ∙ sym (get_or-append (word 64 w0) (word 64 w1) false k (omega (arith, length-word 64 w0)) ∙ get_or-word 64 w0 k h))

    second : 64 ≤ k → k < 128 → lowest (tap w0 w1 k) ≡ get_or (word 64 w0 ++ word 64 w1) k false
    second h l =
        simp (le-ltb k 64 h, lt-ltb k 128 l)
        (ap (λ (n : ℕ). bit n w1) (omega arith)
        ∙ sym (ap (λ (n : ℕ). get_or (word 64 w0 ++ word 64 w1) n false) (omega (arith, length-word 64 w0)) ∙ get_or-append-add (word 64 w0) (word 64 w1) (k - 64) false ∙ get_or-word 64 w1 (k - 64) (omega arith)))

    none : 128 ≤ k → lowest (tap w0 w1 k) ≡ get_or (word 64 w0 ++ word 64 w1) k false
    none h = simp (le-ltb k 64 (omega arith), le-ltb k 128 h) (sym (get_or-eq_default (word 64 w0 ++ word 64 w1) false (omega (arith, length-append (word 64 w0) (word 64 w1), length-word 64 w0, length-word 64 w1))))

tap-places : (w0 w1 : ℕ) → (λ (k : ℕ). lowest (tap w0 w1 k)) ≡ places (word 64 w0 ++ word 64 w1)
tap-places w0 w1 = fun_ext (tap-place w0 w1)

-- So the lowest bit of each function is its value at the places.
kept : Kept (functions words) grain128 lowest
kept = functions_kept words single lowest lowest-xor lowest-and

pub preoutput-words : (g : Registers) → digit (preoutput grain128 (generator_of g)) ≡ y words (tap g.lfsr0 g.lfsr1) (tap g.nfsr0 g.nfsr1) % 2
unfolding preoutput generator_of
preoutput-words g =
    ap digit (sym (kept.output (tap g.lfsr0 g.lfsr1) (tap g.nfsr0 g.nfsr1) ∙ ap₂ grain128.output (tap-places g.lfsr0 g.lfsr1) (tap-places g.nfsr0 g.nfsr1)))
    ∙ digit-lowest (y words (tap g.lfsr0 g.lfsr1) (tap g.nfsr0 g.nfsr1))

lfsr_bit-words : (w0 w1 x : ℕ) → lowest (lfsr_bit (functions words) (tap w0 w1) x) ≡ lfsr_bit grain128 (places (word 64 w0 ++ word 64 w1)) (lowest x)
lfsr_bit-words w0 w1 x = lowest-xor (L words (tap w0 w1)) x ∙ ap (λ (b : Bool). b ⊻ lowest x) (kept.linear (tap w0 w1) ∙ ap grain128.linear (tap-places w0 w1))

nfsr_bit-words : (s0 s1 b0 b1 x : ℕ) → lowest (nfsr_bit (functions words) (tap s0 s1) (tap b0 b1) x) ≡ nfsr_bit grain128 (places (word 64 s0 ++ word 64 s1)) (places (word 64 b0 ++ word 64 b1)) (lowest x)
nfsr_bit-words s0 s1 b0 b1 x =
    lowest-xor (bit_xor (tap s0 s1 0) (F words (tap b0 b1))) x
    ∙ ap (λ (b : Bool). b ⊻ lowest x)
    (lowest-xor (tap s0 s1 0) (F words (tap b0 b1)) ∙ ap₂ ◌⊻◌ (tap-place s0 s1 0) (kept.nonlinear (tap b0 b1) ∙ ap grain128.nonlinear (tap-places b0 b1)))

-- Two words after a clock: each moved, the first taking the top bit of the second, the second a new bit.
pub record Moved (w0 w1 new : ℕ) (v0 v1 : ℕ) : Type 0 where
  pub first : word 64 v0 ≡ shift (word 64 w0) (lowest (w1 / 2 ^ 63))
  pub second : word 64 v1 ≡ shift (word 64 w1) (lowest new)

moved : {w0 w1 new v0 v1 : ℕ} → Moved w0 w1 new v0 v1 → word 64 v0 ++ word 64 v1 ≡ shift (word 64 w0 ++ word 64 w1) (lowest new)
moved {w0} {w1} {new} m = ap₂ ◌++◌ m.first m.second ∙ shift-words 63 w0 w1 (lowest new)

pub clock-words : (g r : Registers) (x z : ℕ)
    → Moved g.lfsr0 g.lfsr1 (lfsr_bit (functions words) (tap g.lfsr0 g.lfsr1) x) r.lfsr0 r.lfsr1
    → Moved g.nfsr0 g.nfsr1 (nfsr_bit (functions words) (tap g.lfsr0 g.lfsr1) (tap g.nfsr0 g.nfsr1) z) r.nfsr0 r.nfsr1
    → generator_of r ≡ clock grain128 (generator_of g) (lowest x) (lowest z)
unfolding clock generator_of
clock-words g r x z l n = λ i. record {
  lfsr = (moved l ∙ ap (shift (word 64 g.lfsr0 ++ word 64 g.lfsr1)) (lfsr_bit-words g.lfsr0 g.lfsr1 x)) i;
  nfsr = (moved n ∙ ap (shift (word 64 g.nfsr0 ++ word 64 g.nfsr1)) (nfsr_bit-words g.lfsr0 g.lfsr1 g.nfsr0 g.nfsr1 z)) i;
}
