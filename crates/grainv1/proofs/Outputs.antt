-- The outputs of plain clocks on words, sixteen at a stroke and 64 in a word of keystream.
-- Assumes nothing.
use mathlib.Core.Path.{◌≡◌, sym, ap, ◌∙◌}
use mathlib.Core.Bool.{Bool}
use mathlib.Core.List.{List, [], ◌++◌}
use Prim.Native.Nat.{ℕ, ◌+◌, ◌*◌}
use native.Mathlib.Omega.{arith}
use lib.Dec.{lit<, lit≤}
use lib.ListN.{drop}
use Rattle.bits.specs.Bytes.{word}
use Rattle.bits.specs.Times.{times}
use Rattle.bits.proofs.Shift.{shifted, shifted_in}
use Rattle.bits.proofs.Word.{length-word}
use Rattle.generators.specs.Generator.{Generator, plain, every}
use Rattle.generators.specs.Running.{Running, clocks, given}
use Rattle.generators.specs.Strokes.{listed, output_at}
use Rattle.generators.proofs.ClocksStroked.{clocks-every, listed-every}
use Rattle.generators.proofs.Runs.{clocks-add, ways}
use Rattle.generators.proofs.Spaced.{length-every}
use Rattle.grainv1.specs.declared.registers.Registers.{Registers}
use Rattle.grainv1.specs.declared.registers.Run.{Run}
use Rattle.grainv1.specs.Functions.{grainv1}
use Rattle.grainv1.specs.Words.{generator_of, running_of, Keystreams}
use Rattle.grainv1.proofs.Strokes.{taps}
use Rattle.grainv1.proofs.Words.{words-sized}

-- Plain clocks of a run.
abbrev pub ran : ℕ → Running → Running
ran n r = clocks grainv1 n (given []) (given []) r

-- Sixteen of them, from a stroke.
pub next-words : (r s : Run) (y : ℕ) → word 16 y ≡ listed 16 (output_at grainv1 (generator_of r.registers)) → generator_of s.registers ≡ times 16 (plain grainv1) (generator_of r.registers)
    → word 64 s.outputs ≡ drop 16 (word 64 r.outputs) ++ word 16 y → running_of s ≡ ran 16 (running_of r)
unfolding running_of
next-words r s y ey eg eo = λ i. record {
  generator = (eg ∙ sym ((ways grainv1 (running_of r)).plain 16)) i;
  outputs =
      (eo ∙ ap (λ (t : List Bool). drop 16 (word 64 r.outputs) ++ t) outputs
      ∙ sym (shifted 16 (word 64 r.outputs) (every grainv1 1 16 g) (length-every grainv1 1 16 g) (omega (arith, length-word 64 r.outputs))) ∙ sym (clocks-every grainv1 16 (running_of r))) i;
}
  where
    g : Generator Bool
    g = generator_of r.registers

    outputs : word 16 y ≡ every grainv1 1 16 g
    outputs = ey ∙ listed-every grainv1 80 65 taps (lit< tt) 16 g (lit≤ tt) (words-sized r.registers)

-- Sixteen more, behind those of n turns.
pub ran_more : (n : ℕ) (r : Running) → ran 16 (ran (n * 16) r) ≡ ran ((n + 1) * 16) r
ran_more n r = sym (clocks-add grainv1 (n * 16) 16 (given []) (given []) r) ∙ ap (λ (k : ℕ). ran k r) (omega arith)

-- All 64, from a run that began with no outputs.
pub keystreams : (g : Registers) (r : Run) → running_of r ≡ ran 64 (running_of record { registers = g; outputs = 0 }) → Keystreams (generator_of g) r
unfolding running_of
keystreams g r e = record {
  generator = ap (λ (s : Running). s.generator) e ∙ (ways grainv1 _).plain 64;
  outputs = ap (λ (s : Running). s.outputs) e ∙ clocks-every grainv1 64 _ ∙ shifted_in 0 (word 64 0) (every grainv1 1 64 (generator_of g)) (omega (arith, length-word 64 0, length-every grainv1 1 64 (generator_of g)));
}
