-- Start-up on words.
-- Assumes nothing.
use mathlib.Core.Path.{◌≡◌, refl, sym, ap, ap₂, ◌∙◌}
use mathlib.Core.Bool.{Bool}
use mathlib.Core.List.{List, ◌++◌}
use Prim.Native.Nat.{ℕ, ◌+◌, ◌*◌, ◌%◌, ◌^◌}
use native.Mathlib.Omega.{arith}
use lib.ListN.{length, take, drop, length-take, length-drop, take-append-drop}
use Rattle.bits.specs.Bytes.{word, value, bits}
use Rattle.bits.specs.Times.{times}
use Rattle.bits.proofs.Packing.{bits-append}
use Rattle.bits.proofs.Spelling.{spelled, spelled_eight}
use Rattle.bits.proofs.Times.{times-add}
use Rattle.generators.specs.Generator.{Generator, fed_back}
use Rattle.grainv1.specs.Sizes.{key_size, nonce_size}
use Rattle.grainv1.specs.Functions.{grainv1}
use Rattle.grainv1.specs.StartUp.{loaded, started, initialised}
use Rattle.grainv1.specs.Words.{register, generator_of}

-- Key and nonce, and sixteen ones, on words.
loaded-words : (k0 k1 n : ℕ) → generator_of record { lfsr0 = n; lfsr1 = 65535; nfsr0 = k0; nfsr1 = k1 } ≡ loaded (register k0 k1) (word 64 n)
unfolding generator_of loaded word
loaded-words k0 k1 n = refl

-- From there the clocks of start-up.
pub started-words : (k0 k1 n : ℕ) → times 160 (fed_back grainv1) (generator_of record { lfsr0 = n; lfsr1 = 65535; nfsr0 = k0; nfsr1 = k1 }) ≡ started (register k0 k1) (word 64 n)
unfolding started
started-words k0 k1 n = ap (times 160 (fed_back grainv1)) (loaded-words k0 k1 n)

-- Sixteen clocks more, behind those of n turns.
pub fed_back_more : (n : ℕ) (g : Generator Bool) → times 16 (fed_back grainv1) (times (n * 16) (fed_back grainv1) g) ≡ times ((n + 1) * 16) (fed_back grainv1) g
fed_back_more n g = times-add (fed_back grainv1) (n * 16) 16 g ∙ ap (λ (k : ℕ). times k (fed_back grainv1) g) (omega arith)

-- From the bytes of key and nonce.
pub initialised-words : (key nonce : List ℕ) (k0 k1 n : ℕ) {g : Generator Bool} → length key ≡ key_size → length nonce ≡ nonce_size
    → k0 ≡ value (bits (take 8 key)) % 2 ^ 64 → k1 ≡ value (bits (drop 8 key)) % 2 ^ 64 → n ≡ value (bits nonce) % 2 ^ 64
    → g ≡ started (register k0 k1) (word 64 n) → g ≡ initialised key nonce
unfolding initialised
initialised-words key nonce k0 k1 n hk hn e0 e1 en e = e ∙ ap₂ started whole (spelled_eight nonce n hn en)
  where
    two : length (drop 8 key) ≡ 2
    two = omega (arith, length-drop 8 key)

    whole : register k0 k1 ≡ bits key
    whole =
        ap₂ ◌++◌ (spelled_eight (take 8 key) k0 (omega (arith, length-take 8 key)) e0)
        (ap (λ (m : ℕ). word (8 * m) k1) (sym two) ∙ spelled (drop 8 key) k1 (omega (arith, two)) e1)
        ∙ sym (bits-append (take 8 key) (drop 8 key)) ∙ ap bits (take-append-drop 8 key)
