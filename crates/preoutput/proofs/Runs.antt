-- What words hold of clocks one after the other.
-- Assumes nothing.
use mathlib.Core.Path.{◌≡◌, ap, ap₂, ◌∙◌, fun_ext}
use mathlib.Core.Bool.{Bool, true, false, cond, ◌&&◌}
use mathlib.Core.List.{◌++◌}
use Prim.Native.Nat.{ℕ, ◌+◌, ◌/◌, ◌^◌, ◌<◌}
use lib.Bits.{bit_xor}
use lib.ListN.{take, drop}
use Rattle.bits.specs.Bit.{◌⊻◌, digit}
use Rattle.bits.specs.Bytes.{word, lowest}
use Rattle.bits.specs.Strings.{shift}
use Rattle.bits.proofs.Lowest.{lowest-xor, lowest-digit}
use Rattle.bits.proofs.Slides.{left_places}
use Rattle.generators.specs.Generator.{preoutput, clock}
use Rattle.generators.specs.Running.{next, adds}
use Rattle.preoutput.specs.declared.Registers.{Registers}
use Rattle.preoutput.specs.declared.Run.{Run}
use Rattle.preoutput.specs.declared.Adding.{Adding}
use Rattle.preoutput.specs.Functions.{grain128}
use Rattle.preoutput.specs.Words.{generator_of}
use Rattle.preoutput.specs.Running.{running_of, to_lfsr, to_nfsr}

-- What is left to add, on words.
pub left_adding : (fed : Bool) (n w0 w1 v0 v1 : ℕ) → n < 64 → word 64 v0 ≡ drop n (word 64 w0) ++ take n (word 64 w1) → word 64 v1 ≡ drop n (word 64 w1) ++ take n (word 64 0)
    → adds fed (word 64 v0 ++ word 64 v1) ≡ λ i. adds fed (word 64 w0 ++ word 64 w1) (n + i)
left_adding fed n w0 w1 v0 v1 h e0 e1 = fun_ext (λ i. fun_ext (λ y. ap (λ (b : Bool). (fed && y) ⊻ b) (left_places n w0 w1 v0 v1 i h e0 e1)))

-- The bit that a clock adds, from a word: of the pre-output y as a word, and of the first place of the words in turn.
pub added-lowest : (fed : Bool) (y w0 w1 f : ℕ) (b : Bool) → lowest y ≡ b → f ≡ cond fed y 0 → lowest (bit_xor f (w0 / 2 ^ 63)) ≡ adds fed (word 64 w0 ++ word 64 w1) 0 b
unfolding word
added-lowest true y w0 w1 f b e ef = lowest-xor f (w0 / 2 ^ 63) ∙ ap (λ (c : Bool). c ⊻ lowest (w0 / 2 ^ 63)) (ap lowest ef ∙ e)
added-lowest false y w0 w1 f b e ef = lowest-xor f (w0 / 2 ^ 63) ∙ ap (λ (c : Bool). c ⊻ lowest (w0 / 2 ^ 63)) (ap lowest ef)

pub next-words : (r : Run) (a : Adding) (g : Registers) (y f out : ℕ) → y ≡ digit (preoutput grain128 (generator_of r.registers)) → f ≡ cond a.fed y 0
    → generator_of g ≡ clock grain128 (generator_of r.registers) (lowest (bit_xor f (a.lfsr0 / 2 ^ 63))) (lowest (bit_xor f (a.nfsr0 / 2 ^ 63)))
    → word 64 out ≡ shift (word 64 r.outputs) (lowest y) → running_of record { registers = g; outputs = out } ≡ next grain128 (to_lfsr a 0) (to_nfsr a 0) (running_of r)
unfolding running_of next to_lfsr to_nfsr
next-words r a g y f out ey ef eg eo = λ i. record {
  generator = (eg ∙ ap₂ (clock grain128 (generator_of r.registers)) (added-lowest a.fed y a.lfsr0 a.lfsr1 f _ low ef) (added-lowest a.fed y a.nfsr0 a.nfsr1 f _ low ef)) i;
  outputs = (eo ∙ ap (shift (word 64 r.outputs)) low) i;
}
  where
    low : lowest y ≡ preoutput grain128 (generator_of r.registers)
    low = ap lowest ey ∙ lowest-digit (preoutput grain128 (generator_of r.registers))
