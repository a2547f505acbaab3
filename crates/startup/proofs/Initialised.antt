-- The state that start-up makes, from the words of its two fillings.
-- Assumes nothing.
use mathlib.Core.Path.{◌≡◌, refl, sym, ap, ap₂, ◌∙◌}
use mathlib.Core.Bool.{Bool, false}
use mathlib.Core.List.{List, [], ◌∷◌, ◌++◌, foldl-append}
use Prim.Native.Nat.{ℕ}
use native.Mathlib.Nat.{le_of_eq}
use lib.ListN.{length, take, drop, length-append, replicate-append-replicate}
use lib.Seq.{take_at, drop_at, take_all}
use Rattle.bits.specs.Bytes.{word}
use Rattle.bits.specs.Strings.{zeros}
use Rattle.bits.proofs.Word.{length-word}
use Rattle.generators.specs.Generator.{Generator, preoutput, keyed}
use Rattle.preoutput.specs.declared.Registers.{Registers}
use Rattle.preoutput.specs.declared.Run.{Run}
use Rattle.preoutput.specs.Words.{generator_of}
use Rattle.preoutput.specs.Functions.{grain128}
use Rattle.authenticator.specs.Words.{authenticator_of}
use Rattle.machine.specs.declared.edition.Edition.{Edition}
use Rattle.machine.specs.declared.edition.Edition.TheVariants.{First, Second}
use Rattle.machine.specs.Engine.{state_of}
use Rattle.startup.specs.StartUp.{loaded, rekeyed, preoutputs}
use Rattle.startup.specs.Editions.{bits_in, warmed, filling, started, initialised}
use Rattle.startup.specs.Filling.{Fills}
use Rattle.startup.proofs.Sizes.{length-preoutputs}

rekeyed-append : (ks ls : List Bool) (g : Generator Bool) → rekeyed g (ks ++ ls) ≡ rekeyed (rekeyed g ks) ls
unfolding rekeyed
rekeyed-append ks ls g = foldl-append (keyed grain128) g ks ls

preoutputs-append : (ks ls : List Bool) (g : Generator Bool) → preoutputs g (ks ++ ls) ≡ preoutputs g ks ++ preoutputs (rekeyed g ks) ls
unfolding preoutputs rekeyed
preoutputs-append [] ls g = refl
preoutputs-append (k ∷ ks) ls g = ap (λ (r : List Bool). preoutput grain128 g ∷ r) (preoutputs-append ks ls (keyed grain128 g k))

-- The state that start-up makes, as its two fillings leave it: the first adds the first half of what is added, the second the other.
module _ (e : Edition) (key nonce : List Bool) (w : Registers) (first second : Run) (a b : ℕ)
    (warm : generator_of w ≡ warmed e key (loaded key nonce)) (halves : word 64 a ++ word 64 b ≡ filling e key) (f : Fills w (word 64 a) first) (s : Fills first.registers (word 64 b) second) where
  g : Generator Bool
  g = warmed e key (loaded key nonce)

  between : generator_of first.registers ≡ rekeyed g (word 64 a)
  unfolding g
  between = f.generator ∙ ap (λ (h : Generator Bool). rekeyed h (word 64 a)) warm

  ran : generator_of second.registers ≡ rekeyed g (filling e key)
  ran = s.generator ∙ ap (λ (h : Generator Bool). rekeyed h (word 64 b)) between ∙ sym (rekeyed-append (word 64 a) (word 64 b) g) ∙ ap (rekeyed g) halves

  all : preoutputs g (filling e key) ≡ preoutputs g (word 64 a) ++ preoutputs (rekeyed g (word 64 a)) (word 64 b)
  all = ap (preoutputs g) (sym halves) ∙ preoutputs-append (word 64 a) (word 64 b) g

  sixty_four : length (preoutputs g (word 64 a)) ≡ 64
  sixty_four = length-preoutputs (word 64 a) g ∙ length-word 64 a

  filled_first : word 64 first.outputs ≡ take 64 (preoutputs g (filling e key))
  unfolding g
  filled_first =
      f.outputs ∙ ap (λ (h : Generator Bool). preoutputs h (word 64 a)) warm
      ∙ sym (ap (take 64) all ∙ take_at (preoutputs g (word 64 a)) _ 64 sixty_four)

  filled_second : word 64 second.outputs ≡ take 64 (drop 64 (preoutputs g (filling e key)))
  filled_second =
      s.outputs ∙ ap (λ (h : Generator Bool). preoutputs h (word 64 b)) between
      ∙ sym
      (ap (λ (r : List Bool). take 64 (drop 64 r)) all ∙ ap (take 64) (drop_at (preoutputs g (word 64 a)) _ 64 sixty_four)
      ∙ take_all 64 _ (le_of_eq (length-preoutputs (word 64 b) (rekeyed g (word 64 a)) ∙ length-word 64 b)))

  started-words : state_of record { edition = e; registers = second.registers; tagger = record { accumulator = first.outputs; register = second.outputs } } ≡ started e key nonce
  unfolding g started state_of authenticator_of
  started-words = λ i. record { edition = e; generator = ran i; authenticator = record { accumulator = filled_first i; register = filled_second i } }

-- What is added, from the two words of the key.
filling_halves : (e : Edition) (p q : List Bool) → filling e p ++ filling e q ≡ filling e (p ++ q)
unfolding filling
filling_halves First p q = refl
filling_halves Second p q = replicate-append-replicate (length p) (length q) false ∙ ap zeros (sym (length-append p q))

pub initialised-words : (e : Edition) (key nonce : List ℕ) (l w : Registers) (first second : Run) (a b : ℕ)
    → generator_of l ≡ loaded (bits_in e key) (bits_in e nonce) → generator_of w ≡ warmed e (generator_of l).nfsr (generator_of l)
    → word 64 a ≡ filling e (word 64 l.nfsr0) → word 64 b ≡ filling e (word 64 l.nfsr1)
    → Fills w (word 64 a) first → Fills first.registers (word 64 b) second
    → state_of record { edition = e; registers = second.registers; tagger = record { accumulator = first.outputs; register = second.outputs } } ≡ initialised e key nonce
unfolding initialised loaded
initialised-words e key nonce l w first second a b load warm ea eb f s =
    started-words e (bits_in e key) (bits_in e nonce) w first second a b
    (warm ∙ ap (λ (h : Generator Bool). warmed e h.nfsr h) load)
    (ap₂ ◌++◌ ea eb ∙ filling_halves e (word 64 l.nfsr0) (word 64 l.nfsr1) ∙ ap (filling e) (unfold generator_of in (ap (λ (h : Generator Bool). h.nfsr) load))) f s
