-- The clocks of start-up on words: with the pre-output fed back, alone or with key bits, and with bits added to the LFSR.
-- Assumes nothing.
use mathlib.Core.Path.{◌≡◌, refl, sym, ap, ap₂, ◌∙◌, fun_ext}
use mathlib.Core.Bool.{Bool, true, false, ◌&&◌}
use mathlib.Core.List.{List, [], ◌∷◌, ◌++◌, foldl}
use Prim.Native.Nat.{ℕ}
use native.Mathlib.Omega.{arith}
use lib.ListN.{length, take, drop}
use lib.Seq.{take_at, drop_at}
use Rattle.bits.specs.Bit.{◌⊻◌}
use Rattle.bits.specs.Bytes.{word}
use Rattle.bits.specs.Strings.{shift, places}
use Rattle.bits.specs.Times.{times}
use Rattle.bits.proofs.Moved.{word-zero}
use Rattle.bits.proofs.Shift.{shifted_in}
use Rattle.bits.proofs.Word.{length-word}
use Rattle.generators.specs.Generator.{Generator, fed_back, fed_back_with}
use Rattle.generators.specs.Running.{Running, Added, next, clocks, given, adds}
use Rattle.generators.proofs.Runs.{ways}
use Rattle.preoutput.specs.declared.Registers.{Registers}
use Rattle.preoutput.specs.declared.Run.{Run}
use Rattle.preoutput.specs.Functions.{grain128}
use Rattle.preoutput.specs.Words.{generator_of}
use Rattle.preoutput.specs.Running.{running_of}
use Rattle.bits.proofs.Slides.{places-zeros}
use Rattle.machine.specs.declared.edition.Edition.TheVariants.{Second}
use Rattle.startup.specs.StartUp.{rekeyed, preoutputs}
use Rattle.startup.specs.Editions.{warmed}
use Rattle.startup.specs.Filling.{Fills}
use Rattle.startup.proofs.Sizes.{length-preoutputs}

-- Two words 0 add nothing.
no_places : (i : ℕ) → places (word 64 0 ++ word 64 0) i ≡ false
no_places i = ap (λ (s : List Bool). places (s ++ s) i) (word-zero 64) ∙ places-zeros [] 128 i

pub fed_back_lem : (n : ℕ) (g : Registers) (r : Run)
    → running_of r ≡ clocks grain128 n (adds true (word 64 0 ++ word 64 0)) (adds true (word 64 0 ++ word 64 0)) (running_of record { registers = g; outputs = 0 })
    → generator_of r.registers ≡ times n (fed_back grain128) (generator_of g)
unfolding running_of
fed_back_lem n g r e =
    ap (λ (s : Running). s.generator) (e ∙ ap (λ (u : Added). clocks grain128 n u u (running_of record { registers = g; outputs = 0 })) (fun_ext (λ i. fun_ext (λ y. ap (λ (b : Bool). y ⊻ b) (no_places i)))))
    ∙ (ways grain128 (running_of record { registers = g; outputs = 0 })).fed_back n

-- A word and a word 0 add the bits of the first, and zeros.
word-places : (fed : Bool) (w : ℕ) → adds fed (word 64 w ++ word 64 0) ≡ adds fed (word 64 w)
word-places fed w = ap (λ (s : List Bool). adds fed (word 64 w ++ s)) (word-zero 64) ∙ fun_ext (λ i. fun_ext (λ y. ap (λ (b : Bool). (fed && y) ⊻ b) (places-zeros (word 64 w) 64 i)))

pub fed_back_with_lem : (g : Registers) (k l : ℕ) (r : Run)
    → running_of r ≡ clocks grain128 64 (adds true (word 64 k ++ word 64 0)) (adds true (word 64 l ++ word 64 0)) (running_of record { registers = g; outputs = 0 })
    → generator_of r.registers ≡ fed_back_with grain128 (generator_of g) (word 64 k) (word 64 l)
unfolding running_of
fed_back_with_lem g k l r e =
    ap (λ (s : Running). s.generator) (e ∙ ap₂ (λ (u v : Added). clocks grain128 64 u v begun) (word-places true k) (word-places true l) ∙ ap (λ (n : ℕ). clocks grain128 n (adds true (word 64 k)) (adds true (word 64 l)) begun) (sym (length-word 64 k)))
    ∙ (ways grain128 begun).fed_back_with (word 64 k) (word 64 l) (length-word 64 k ∙ sym (length-word 64 l))
  where
    begun : Running
    begun = running_of record { registers = g; outputs = 0 }

-- The halves of the key, from the words of the loaded NFSR.
pub warmed_second : (l r : Registers) {g : Generator Bool} → g ≡ times 320 (fed_back grain128) (generator_of l) → generator_of r ≡ fed_back_with grain128 g (word 64 l.nfsr1) (word 64 l.nfsr0)
    → generator_of r ≡ warmed Second (generator_of l).nfsr (generator_of l)
unfolding warmed
warmed_second l r {g} fed both =
    both
    ∙ ap₂ (fed_back_with grain128 g) (sym (drop_at (word 64 l.nfsr0) (word 64 l.nfsr1) 64 (length-word 64 l.nfsr0))) (sym (take_at (word 64 l.nfsr0) (word 64 l.nfsr1) 64 (length-word 64 l.nfsr0)))
    ∙ unfold generator_of in (ap (λ (h : Generator Bool). fed_back_with grain128 h (drop 64 (generator_of l).nfsr) (take 64 (generator_of l).nfsr)) fed)

keyed-preoutputs : (ks : List Bool) (r : Running) → (clocks grain128 (length ks) (given ks) (given []) r).outputs ≡ foldl shift r.outputs (preoutputs r.generator ks)
unfolding clocks next preoutputs
keyed-preoutputs [] r = refl
keyed-preoutputs (k ∷ ks) r = keyed-preoutputs ks (next grain128 (λ y. k) (λ y. false) r)

-- Sixty-four clocks fill a word.
pub fills : (g : Registers) (added : ℕ) (r : Run)
    → running_of r ≡ clocks grain128 64 (adds false (word 64 added ++ word 64 0)) (adds false (word 64 0 ++ word 64 0)) (running_of record { registers = g; outputs = 0 }) → Fills g (word 64 added) r
unfolding running_of rekeyed
fills g added r e = record {
  generator = ap (λ (s : Running). s.generator) ran ∙ (ways grain128 begun).keyed (word 64 added);
  outputs =
      ap (λ (s : Running). s.outputs) ran ∙ keyed-preoutputs (word 64 added) begun
      ∙ shifted_in 0 (word 64 0) (preoutputs (generator_of g) (word 64 added)) (omega (arith, length-word 64 0, length-preoutputs (word 64 added) (generator_of g), length-word 64 added));
}
  where
    begun : Running
    begun = running_of record { registers = g; outputs = 0 }

    to_the_lfsr : adds false (word 64 added ++ word 64 0) ≡ given (word 64 added)
    to_the_lfsr = word-places false added

    to_the_nfsr : adds false (word 64 0 ++ word 64 0) ≡ given []
    to_the_nfsr = fun_ext (λ i. fun_ext (λ y. no_places i))

    ran : running_of r ≡ clocks grain128 (length (word 64 added)) (given (word 64 added)) (given []) begun
    ran = e ∙ ap₂ (λ (u v : Added). clocks grain128 64 u v begun) to_the_lfsr to_the_nfsr ∙ ap (λ (n : ℕ). clocks grain128 n (given (word 64 added)) (given []) begun) (sym (length-word 64 added))
