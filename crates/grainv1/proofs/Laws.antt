-- Which output is which keystream bit, and the sizes.
-- Assumes nothing.
use mathlib.Core.Path.{ap, ◌∙◌}
use mathlib.Core.Bool.{Bool, true}
use mathlib.Core.List.{List}
use Prim.Native.Nat.{ℕ, ◌*◌}
use native.Mathlib.Nat.{one-mul}
use native.Mathlib.Omega.{arith}
use lib.Dec.{lit<}
use lib.ListN.{length, replicate, length-append, length-replicate}
use Rattle.bits.specs.Bit.{◌⊻◌}
use Rattle.bits.specs.Bytes.{bits}
use Rattle.bits.specs.Strings.{places}
use Rattle.bits.specs.Times.{times}
use Rattle.bits.proofs.Flip.{bits-flip}
use Rattle.bits.proofs.Packing.{length-bits}
use Rattle.bits.proofs.Sum.{get_or-sum}
use Rattle.bits.proofs.Times.{times_keeps}
use Rattle.generators.specs.Generator.{Generator, Sized, preoutput, plain, every, fed_back}
use Rattle.generators.proofs.Sizes.{clock-sized}
use Rattle.generators.proofs.Spaced.{length-every, every-at}
use Rattle.grainv1.specs.Functions.{grainv1}
use Rattle.grainv1.specs.StartUp.{loaded, started, initialised, with_keystream}
use Rattle.grainv1.specs.Laws.{Enciphered, StartsSized}
use Rattle.grainv1.proofs.Calls.{length-with_keystream}

pub enciphered : (key nonce message : List ℕ) → Enciphered key nonce message
unfolding with_keystream
enciphered key nonce message = record {
  as_long = length-with_keystream key nonce message;
  added = λ i h.
      ap (λ (s : List Bool). places s i) (bits-flip message keystream (length-every grainv1 1 (8 * length message) g)) ∙ get_or-sum (bits message) keystream i
      ∙ ap (λ (b : Bool). places (bits message) i ⊻ b) (every-at grainv1 1 (8 * length message) i g h ∙ ap (λ (n : ℕ). preoutput grainv1 (times n (plain grainv1) g)) (one-mul i));
}
  where
    g : Generator Bool
    g = initialised key nonce

    keystream : List Bool
    keystream = every grainv1 1 (8 * length message) g

pub starts_sized : StartsSized
unfolding initialised started loaded
starts_sized key nonce hk hn =
    times_keeps (fed_back grainv1) (Sized 80) (λ g sized. clock-sized grainv1 80 g _ _ (lit< tt) sized) 160 (loaded (bits key) (bits nonce))
    record {
      lfsr = omega (arith, length-append (bits nonce) (replicate 16 true), length-bits nonce, length-replicate 16 true);
      nfsr = omega (arith, length-bits key);
    }
