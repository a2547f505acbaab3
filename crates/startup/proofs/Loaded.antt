-- The loading: place by place, and in words.
-- Assumes nothing.
use mathlib.Core.Path.{◌≡◌, refl, sym, ap, ap₂, ◌∙◌}
use mathlib.Core.Bool.{Bool, true, false}
use mathlib.Core.List.{List, [], ◌∷◌, ◌++◌, append_assoc}
use Prim.Native.Nat.{ℕ, ◌+◌, ◌-◌, ◌≤◌}
use native.Mathlib.Omega.{arith}
use lib.ListN.{take-append-drop, length, get_or, take, drop, replicate, length-append, length-drop, length-replicate, get_or-replicate, get_or-append}
use lib.Seq.{take_all, get_or-append-add, get_or_at}
use Rattle.bits.specs.Bytes.{word}
use Rattle.generators.specs.Generator.{Sized}
use Rattle.preoutput.specs.declared.Registers.{Registers}
use Rattle.preoutput.specs.Words.{generator_of}
use Rattle.machine.specs.declared.edition.Edition.{Edition}
use Rattle.key.specs.Sizes.{key_size, nonce_size}
use Rattle.startup.specs.StartUp.{loaded}
use Rattle.startup.specs.Editions.{bits_in}
use Rattle.startup.specs.Laws as laws
use Rattle.startup.proofs.Order.{bits_in-append, length-bits_in}

nonce-ones : List Bool → List Bool
nonce-ones nonce = nonce ++ replicate 31 true

length-nonce-ones : (nonce : List Bool) → length nonce ≡ 96 → length (nonce-ones nonce) ≡ 127
unfolding nonce-ones
length-nonce-ones nonce n = omega (arith, length-append nonce (replicate 31 true), length-replicate 31 true)

-- The bits of a key and of a nonce, in any order.
pub key-bits : (e : Edition) (key : List ℕ) → length key ≡ key_size → length (bits_in e key) ≡ 128
key-bits e key k = omega (arith, length-bits_in e key)

pub nonce_bits_lem : (e : Edition) (nonce : List ℕ) → length nonce ≡ nonce_size → length (bits_in e nonce) ≡ 96
nonce_bits_lem e nonce n = omega (arith, length-bits_in e nonce)

pub loading : (e : Edition) (key nonce : List ℕ) → length nonce ≡ nonce_size → laws.Loading e key nonce
unfolding loaded nonce-ones
loading e key nonce n = record {
  nfsr = refl;
  nonce_bits = λ i h. get_or-append (nonce-ones bits) _ false i (omega (arith, length-nonce-ones bits long)) ∙ get_or-append bits (replicate 31 true) false i (omega (arith, long));
  ones = λ i l h.
      get_or-append (nonce-ones bits) _ false i (omega (arith, length-nonce-ones bits long))
      ∙ ap (λ (k : ℕ). get_or (nonce-ones bits) k false) (place i l)
      ∙ get_or-append-add bits (replicate 31 true) (i - 96) false
      ∙ get_or-replicate 31 (i - 96) true false (omega arith);
  last = get_or_at (nonce-ones bits) _ [] true 127 (length-nonce-ones bits long);
}
  where
    bits : List Bool
    bits = bits_in e nonce

    long : length bits ≡ 96
    long = nonce_bits_lem e nonce n

    place : (i : ℕ) → 96 ≤ i → i ≡ length bits + (i - 96)
    place i l = omega (arith, long)

pub loaded-sized : (key nonce : List Bool) → length key ≡ 128 → length nonce ≡ 96 → Sized 128 (loaded key nonce)
unfolding loaded nonce-ones
loaded-sized key nonce k n = record { lfsr = omega (arith, length-append (nonce-ones nonce) (false ∷ []), length-nonce-ones nonce n); nfsr = k }

-- What the four words hold.
pub record Words (e : Edition) (key nonce : List ℕ) (r : Registers) : Type 0 where
  pub lfsr0 : word 64 r.lfsr0 ≡ bits_in e (take 8 nonce)
  pub lfsr1 : word 64 r.lfsr1 ≡ bits_in e (take 4 (drop 8 nonce)) ++ (replicate 31 true ++ (false ∷ []))
  pub nfsr0 : word 64 r.nfsr0 ≡ bits_in e (take 8 key)
  pub nfsr1 : word 64 r.nfsr1 ≡ bits_in e (take 8 (drop 8 key))

-- A string of n + 8 bytes is its first eight and the others.
eight_and_rest : (e : Edition) (n : ℕ) (s : List ℕ) → length s ≡ 8 + n → bits_in e (take 8 s) ++ bits_in e (take n (drop 8 s)) ≡ bits_in e s
eight_and_rest e n s h =
    sym (bits_in-append e (take 8 s) (take n (drop 8 s)))
    ∙ ap (bits_in e) (ap (λ (r : List ℕ). take 8 s ++ r) (take_all n (drop 8 s) (omega (arith, length-drop 8 s))) ∙ take-append-drop 8 s)

pub loaded-words : (e : Edition) (key nonce : List ℕ) (r : Registers) → length key ≡ key_size → length nonce ≡ nonce_size → Words e key nonce r
    → generator_of r ≡ loaded (bits_in e key) (bits_in e nonce)
unfolding generator_of loaded
loaded-words e key nonce r k n w = λ i. record {
  lfsr =
      (ap₂ ◌++◌ w.lfsr0 w.lfsr1
      ∙ sym (append_assoc (bits_in e (take 8 nonce)) (bits_in e (take 4 (drop 8 nonce))) (replicate 31 true ++ (false ∷ [])))
      ∙ ap (λ (s : List Bool). s ++ (replicate 31 true ++ (false ∷ []))) (eight_and_rest e 4 nonce n)
      ∙ sym (append_assoc (bits_in e nonce) (replicate 31 true) (false ∷ []))) i;
  nfsr = (ap₂ ◌++◌ w.nfsr0 w.nfsr1 ∙ eight_and_rest e 8 key k) i;
}
