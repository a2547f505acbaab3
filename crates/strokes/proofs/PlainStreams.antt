-- The pre-outputs of plain running, parted, on words.
-- Assumes nothing.
use mathlib.Core.Path.{◌≡◌, refl, sym, ap, ap₂, ◌∙◌}
use mathlib.Core.Bool.{Bool, false}
use mathlib.Core.List.{List, [], ◌∷◌, ◌++◌, append_assoc}
use Prim.Native.Nat.{ℕ, zero, suc, ◌+◌, ◌-◌, ◌*◌, ◌/◌, ◌%◌, ◌^◌, ◌<◌, ◌≤◌}
use native.Mathlib.Nat.{mod-lt, mod-mod, zero-mul, zero-add, one-mul}
use native.Mathlib.Omega.{arith}
use lib.ListN.{length, take, drop, replicate-append-replicate}
use lib.Pow.{shr_lt, pow_pos}
use lib.Seq.{take_at, drop_at, take_all}
use Rattle.bits.specs.Bytes.{word}
use Rattle.bits.specs.Strings.{zeros, places, evens, odds}
use Rattle.bits.specs.Times.{times}
use Rattle.bits.proofs.Evens.{length-evens, evens-zeros, odds-zeros}
use Rattle.bits.proofs.Moved.{word-zero}
use Rattle.bits.proofs.Sum.{drop-zeros}
use Rattle.bits.proofs.Times.{times-add}
use Rattle.bits.proofs.Word.{length-word, word_agrees, word-append, word-drop}
use Rattle.generators.specs.Generator.{Generator, preoutput, plain, every}
use Rattle.generators.specs.Strokes.{listed, output_at, stroked}
use Rattle.generators.proofs.Spaced.{every_append}
use Rattle.generators.proofs.Listed.{take-listed}
use Rattle.generators.proofs.ClocksStroked.{plain-stroked, listed-every}
use Rattle.preoutput.specs.declared.Registers.{Registers}
use Rattle.preoutput.specs.declared.Run.{Run}
use Rattle.strokes.specs.declared.streams.Streamed.{Streamed}
use Rattle.preoutput.specs.Functions.{grain128}
use Rattle.preoutput.specs.Words.{generator_of}
use Rattle.preoutput.proofs.Functions.{taps}
use Rattle.strokes.specs.Streams.{Parted, Keystreams, Streams}
use Rattle.bits.proofs.Slides.{word-take, places-zeros, top_places}
use Rattle.strokes.proofs.StrokeWords.{words-sized}

two_more : (n : ℕ) → 2 * suc n ≡ suc (suc (2 * n))
two_more n = omega arith

-- Of all pre-outputs, every second from the first on and from the second on.
evens-every : (n : ℕ) (g : Generator Bool) → evens (every grain128 1 (2 * n) g) ≡ every grain128 2 n g
unfolding evens every times
evens-every zero g = refl
evens-every (suc n) g = ap (λ (k : ℕ). evens (every grain128 1 k g)) (two_more n) ∙ ap (λ (s : List Bool). preoutput grain128 g ∷ s) (evens-every n (plain grain128 (plain grain128 g)))

-- With one clock more.
evens_more : (n : ℕ) (g : Generator Bool) → evens (every grain128 1 (suc (2 * n)) g) ≡ every grain128 2 (suc n) g
unfolding evens every times
evens_more zero g = refl
evens_more (suc n) g = ap (λ (k : ℕ). evens (every grain128 1 (suc k) g)) (two_more n) ∙ ap (λ (s : List Bool). preoutput grain128 g ∷ s) (evens_more n (plain grain128 (plain grain128 g)))

odds-every : (n : ℕ) (g : Generator Bool) → odds (every grain128 1 (2 * n) g) ≡ every grain128 2 n (plain grain128 g)
unfolding evens every times
odds-every zero g = refl
odds-every (suc n) g = ap (λ (k : ℕ). odds (every grain128 1 k g)) (two_more n) ∙ evens_more n (plain grain128 g)

-- A stroke of n plain clocks, and its pre-outputs.
module _ (n : ℕ) (g : Registers) (h : n ≤ 32) where
  plain-words : stroked grain128 n (places (word 32 0)) (places (word 32 0)) (generator_of g) ≡ times n (plain grain128) (generator_of g)
  plain-words = plain-stroked grain128 128 97 taps (omega arith) n (generator_of g) (omega arith) (words-sized g) _ _ (λ i l. none i) (λ i l. none i)
    where
      none : (i : ℕ) → places (word 32 0) i ≡ false
      none i = ap (λ (s : List Bool). places s i) (word-zero 32) ∙ places-zeros [] 32 i

  listed-words : listed n (output_at grain128 (generator_of g)) ≡ every grain128 1 n (generator_of g)
  listed-words = listed-every grain128 128 97 taps (omega arith) n (generator_of g) (omega arith) (words-sized g)

-- The two halves of a word as words.
pub halves : (r : Run) (both : ℕ) → both < 2 ^ 64 → word 64 both ≡ evens (word 64 r.outputs) ++ odds (word 64 r.outputs)
    → (word 64 (both / 2 ^ 32) ≡ zeros 32 ++ evens (word 64 r.outputs)) × (word 64 (both % 2 ^ 32) ≡ zeros 32 ++ odds (word 64 r.outputs))
halves r both small e = (
  above (both / 2 ^ 32) (shr_lt 32 32 small)
      ∙ ap (λ (s : List Bool). zeros 32 ++ s) (sym (word-take 32 32 both) ∙ ap (take 32) e ∙ take_at (evens (word 64 r.outputs)) (odds (word 64 r.outputs)) 32 half),
  above (both % 2 ^ 32) (mod-lt both (pow_pos 32))
      ∙ ap (λ (s : List Bool). zeros 32 ++ s)
      (word_agrees 32 (both % 2 ^ 32) both (mod-mod both (2 ^ 32)) ∙ sym (word-drop 32 32 both) ∙ ap (drop 32) e ∙ drop_at (evens (word 64 r.outputs)) (odds (word 64 r.outputs)) 32 half),
)
  where
    half : length (evens (word 64 r.outputs)) ≡ 32
    half = omega (arith, length-evens (word 64 r.outputs), length-word 64 r.outputs)

    above : (x : ℕ) → x < 2 ^ 32 → word 64 x ≡ zeros 32 ++ word 32 x
    above x h = ap (word 64) (sym (ap (λ (z : ℕ). z + x) (zero-mul (2 ^ 32)) ∙ zero-add x)) ∙ word-append 32 32 0 x h ∙ ap (λ (s : List Bool). s ++ word 32 x) (word-zero 32)

-- The streams of n string bits, 32 at most, from a run that began with no pre-outputs.
pub streams : (n : ℕ) (g : Generator Bool) (r : Run) (s : Streamed) → n ≤ 32 → Keystreams 1 (2 * n) g r.registers r.outputs → Parted r s → Streams n g s
streams n g r s h ran parted = record {
  keystreams = record {
    generator = ap generator_of parted.registers ∙ ran.generator ∙ ap (λ (k : ℕ). times k (plain grain128) g) (one-mul (2 * n));
    keystream = parted.keystream ∙ ap (λ (t : List Bool). zeros 32 ++ t) (ap evens outputs ∙ evens-zeros (32 - n) (every grain128 1 (2 * n) g) ∙ ap (λ (t : List Bool). zeros (32 - n) ++ t) (evens-every n g)) ∙ together (every grain128 2 n g);
  };
  authentication = parted.authentication ∙ ap (λ (t : List Bool). zeros 32 ++ t) (ap odds outputs ∙ odds-zeros (32 - n) (every grain128 1 (2 * n) g) ∙ ap (λ (t : List Bool). zeros (32 - n) ++ t) (odds-every n g)) ∙ together (every grain128 2 n (plain grain128 g));
}
  where
    outputs : word 64 r.outputs ≡ zeros (2 * (32 - n)) ++ every grain128 1 (2 * n) g
    outputs =
        let twice : 64 - 2 * n ≡ 2 * (32 - n) = omega arith in
        ran.keystream ∙ ap (λ (k : ℕ). zeros k ++ every grain128 1 (2 * n) g) twice

    together : (t : List Bool) → zeros 32 ++ (zeros (32 - n) ++ t) ≡ zeros (64 - n) ++ t
    together t =
        let all : 32 + (32 - n) ≡ 64 - n = omega arith in
        sym (append_assoc (zeros 32) (zeros (32 - n)) t) ∙ ap (λ (z : List Bool). z ++ t) (replicate-append-replicate 32 (32 - n) false ∙ ap zeros all)

-- One stroke of n clocks, and two of 32.
pub one_stroke : (n : ℕ) (g : Registers) (y : ℕ) {after : Registers} {o : ℕ} → n ≤ 32 → generator_of after ≡ stroked grain128 n (places (word 32 0)) (places (word 32 0)) (generator_of g)
    → word 32 y ≡ listed 32 (output_at grain128 (generator_of g)) → word 64 o ≡ drop n (word 64 0) ++ take n (word 64 (y * 2 ^ 32 % 2 ^ 64)) → Keystreams 1 n (generator_of g) after o
one_stroke n g y h eg ey eo = record {
  generator = eg ∙ plain-words n g h ∙ ap (λ (k : ℕ). times k (plain grain128) (generator_of g)) (sym (one-mul n));
  keystream =
      eo ∙ ap₂ ◌++◌ (ap (drop n) (word-zero 64) ∙ drop-zeros n 64)
      (top_places n y h ∙ ap (take n) ey ∙ take-listed n 32 _ h ∙ listed-words n g h);
}

pub two_strokes : (g half : Registers) (y z : ℕ) {after : Registers} {o : ℕ} → generator_of half ≡ stroked grain128 32 (places (word 32 0)) (places (word 32 0)) (generator_of g)
    → generator_of after ≡ stroked grain128 32 (places (word 32 0)) (places (word 32 0)) (generator_of half)
    → word 32 y ≡ listed 32 (output_at grain128 (generator_of g)) → word 32 z ≡ listed 32 (output_at grain128 (generator_of half))
    → word 64 o ≡ drop 32 (word 64 y) ++ take 32 (word 64 (z * 2 ^ 32 % 2 ^ 64)) → Keystreams 1 64 (generator_of g) after o
two_strokes g half y z eh er ey ez eo = record {
  generator = er ∙ plain-words 32 half (omega arith) ∙ ap (times 32 (plain grain128)) first ∙ times-add (plain grain128) 32 32 (generator_of g);
  keystream =
      eo
      ∙ ap₂ ◌++◌ (word-drop 32 32 y ∙ ey ∙ listed-words 32 g (omega arith))
      (top_places 32 z (omega arith) ∙ take_all 32 (word 32 z) (omega (arith, length-word 32 z)) ∙ ez ∙ listed-words 32 half (omega arith) ∙ ap (every grain128 1 32) first)
      ∙ sym (every_append grain128 1 32 32 (generator_of g));
}
  where
    first : generator_of half ≡ times 32 (plain grain128) (generator_of g)
    first = eh ∙ plain-words 32 g (omega arith)
