-- Start-up in words, and the sizes that it makes.
-- Assumes nothing.
use mathlib.Core.Path.{◌≡◌, ap, ◌∙◌}
use mathlib.Core.Bool.{Bool, false}
use mathlib.Core.List.{List, ◌++◌}
use Prim.Native.Nat.{ℕ, ◌+◌}
use native.Mathlib.Nat.{one-mul}
use lib.ListN.{drop, length-replicate}
use lib.Seq.{drop_at}
use Rattle.bits.specs.Bytes.{word}
use Rattle.bits.specs.Strings.{zeros}
use Rattle.bits.specs.Times.{times}
use Rattle.bits.proofs.Times.{times-add}
use Rattle.generators.specs.Generator.{Generator, preoutput, plain, every}
use Rattle.generators.specs.Strokes.{listed}
use Rattle.generators.proofs.Listed.{listed_agrees, length-listed, every-listed}
use Rattle.preoutput.specs.declared.Registers.{Registers}
use Rattle.preoutput.specs.Functions.{grain128}
use Rattle.preoutput.specs.Words.{generator_of}
use Rattle.strokes.specs.Streams.{Keystreams}
use Rattle.authenticator.specs.Words.{authenticator_of}
use Rattle.authenticator.specs.Cutting as authenticator
use Rattle.machine.specs.declared.edition.Edition.TheVariants.{First}
use Rattle.machine.specs.Engine.{state_of}
use Rattle.machine.specs.Laws.{cut}
use Rattle.startup.proofs.Loaded.{key-bits, nonce_bits_lem, loaded-sized}
use Rattle.startup.proofs.Sizes.{fed_back-sized, plain-sized}
use Rattle.grain128a.specs.Bits.{bits}
use Rattle.grain128a.specs.StartUp.{warmed, preoutput_of, filled, initialised}
use Rattle.grain128a.specs.Laws.{StartsSized}

-- The pre-outputs of n clocks, and of n clocks after k.
pub every-preoutput : (n : ℕ) (g : Generator Bool) → every grain128 1 n g ≡ listed n (preoutput_of g)
unfolding preoutput_of
every-preoutput n g = every-listed grain128 1 n g ∙ listed_agrees n _ _ (λ i h. ap (λ (k : ℕ). preoutput grain128 (times k (plain grain128) g)) (one-mul i))

pub preoutput-later : (k i : ℕ) (g : Generator Bool) → preoutput_of (times k (plain grain128) g) i ≡ preoutput_of g (k + i)
unfolding preoutput_of
preoutput-later k i g = ap (preoutput grain128) (times-add (plain grain128) k i g)

-- A word with 32 bits has them at its end.
last-places : (k : ℕ) (s : List Bool) → word 64 k ≡ zeros 32 ++ s → drop 32 (word 64 k) ≡ s
last-places k s e = ap (drop 32) e ∙ drop_at (zeros 32) s 32 (length-replicate 32 false)

pub filled-words : (g : Generator Bool) (r₁ r₂ : Registers) (k₁ k₂ : ℕ) → Keystreams 1 32 g r₁ k₁ → Keystreams 1 32 (generator_of r₁) r₂ k₂
    → cut 32 (state_of record { edition = First; registers = r₂; tagger = record { accumulator = k₁; register = k₂ } }) ≡ filled g
unfolding cut state_of filled authenticator.cut authenticator_of
filled-words g r₁ r₂ k₁ k₂ first second = λ i. record {
  edition = First;
  generator = (second.generator ∙ ap (times 32 (plain grain128)) first.generator ∙ times-add (plain grain128) 32 32 g) i;
  authenticator = record {
    accumulator = (last-places k₁ _ first.keystream ∙ every-preoutput 32 g) i;
    register =
        (last-places k₂ _ second.keystream ∙ every-preoutput 32 (generator_of r₁) ∙ ap (λ (h : Generator Bool). listed 32 (preoutput_of h)) first.generator
        ∙ listed_agrees 32 _ _ (λ j h. preoutput-later 32 j g)) i;
  };
}

pub initialised-sized : StartsSized
unfolding initialised filled warmed
initialised-sized key nonce k n = record {
  generator = plain-sized 64 _ (fed_back-sized 256 _ (loaded-sized (bits key) (bits nonce) (key-bits First key k) (nonce_bits_lem First nonce n)));
  authenticator = record { accumulator = length-listed 32 _; register = length-listed 32 _ };
}
