-- The size of the state that start-up makes.
-- Assumes nothing.
use mathlib.Core.Path.{◌≡◌, refl, ap, ◌∙◌}
use mathlib.Core.Bool.{Bool, false}
use mathlib.Core.List.{List, [], ◌∷◌}
use Prim.Native.Nat.{ℕ, suc}
use native.Mathlib.Omega.{arith}
use lib.ListN.{length, take, drop, length-take, length-drop, length-replicate}
use Rattle.bits.specs.Times.{times}
use Rattle.bits.proofs.Times.{times_keeps}
use Rattle.generators.specs.Generator.{Generator, Sized, plain, fed_back, fed_back_with, keyed}
use Rattle.generators.proofs.Sizes.{clock-sized}
use Rattle.preoutput.specs.Functions.{grain128}
use Rattle.machine.specs.declared.edition.Edition.{Edition}
use Rattle.machine.specs.declared.edition.Edition.TheVariants.{First, Second}
use Rattle.machine.specs.Laws as machine
use Rattle.startup.specs.StartUp.{loaded, rekeyed, preoutputs}
use Rattle.startup.specs.Editions.{bits_in, warmed, filling, started, initialised}
use Rattle.startup.specs.Laws.{StartsSized}
use Rattle.startup.proofs.Loaded.{key-bits, nonce_bits_lem, loaded-sized}

-- Clocks keep the sizes of the registers.
pub fed_back-sized : (n : ℕ) (g : Generator Bool) → Sized 128 g → Sized 128 (times n (fed_back grain128) g)
fed_back-sized = times_keeps (fed_back grain128) (Sized 128) (λ g. clock-sized grain128 128 g _ _ (omega arith))

pub plain-sized : (n : ℕ) (g : Generator Bool) → Sized 128 g → Sized 128 (times n (plain grain128) g)
plain-sized = times_keeps (plain grain128) (Sized 128) (λ g. clock-sized grain128 128 g _ _ (omega arith))

fed_back_with-sized : (ks ls : List Bool) (g : Generator Bool) → Sized 128 g → Sized 128 (fed_back_with grain128 g ks ls)
unfolding fed_back_with
fed_back_with-sized [] ls g sized = sized
fed_back_with-sized (k ∷ ks) [] g sized = sized
fed_back_with-sized (k ∷ ks) (l ∷ ls) g sized = fed_back_with-sized ks ls _ (clock-sized grain128 128 g _ _ (omega arith) sized)

rekeyed-sized : (ks : List Bool) (g : Generator Bool) → Sized 128 g → Sized 128 (rekeyed g ks)
unfolding rekeyed
rekeyed-sized [] g sized = sized
rekeyed-sized (k ∷ ks) g sized = rekeyed-sized ks (keyed grain128 g k) (clock-sized grain128 128 g _ _ (omega arith) sized)

pub length-preoutputs : (ks : List Bool) (g : Generator Bool) → length (preoutputs g ks) ≡ length ks
unfolding preoutputs
length-preoutputs [] g = refl
length-preoutputs (k ∷ ks) g = ap suc (length-preoutputs ks (keyed grain128 g k))

warmed-sized : (e : Edition) (key : List Bool) (g : Generator Bool) → Sized 128 g → Sized 128 (warmed e key g)
unfolding warmed
warmed-sized First key g sized = fed_back-sized 256 g sized
warmed-sized Second key g sized = fed_back_with-sized (drop 64 key) (take 64 key) _ (fed_back-sized 320 g sized)

pub length-filling : (e : Edition) (key : List Bool) → length (filling e key) ≡ length key
unfolding filling
length-filling First key = refl
length-filling Second key = length-replicate (length key) false

started-sized : (e : Edition) (key nonce : List Bool) → length key ≡ 128 → length nonce ≡ 96 → machine.Sized 64 (started e key nonce)
unfolding started
started-sized e key nonce k n = record {
  generator = rekeyed-sized (filling e key) g (warmed-sized e key (loaded key nonce) (loaded-sized key nonce k n));
  authenticator = record {
    accumulator = omega (arith, length-take 64 ys, long);
    register = omega (arith, length-take 64 (drop 64 ys), length-drop 64 ys, long);
  };
}
  where
    g : Generator Bool
    g = warmed e key (loaded key nonce)

    ys : List Bool
    ys = preoutputs g (filling e key)

    long : length ys ≡ 128
    long = length-preoutputs (filling e key) g ∙ length-filling e key ∙ k

pub initialised-sized : StartsSized
unfolding initialised
initialised-sized e key nonce k n = started-sized e (bits_in e key) (bits_in e nonce) (key-bits e key k) (nonce_bits_lem e nonce n)
