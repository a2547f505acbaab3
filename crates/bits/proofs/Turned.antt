-- Bytes whose bits are turned round: to turn twice changes nothing, and a word of which every eight bits are turned has its bytes turned.
-- Assumes nothing.
use mathlib.Core.Path.{◌≡◌, refl, sym, ap, ap₂, ◌∙◌}
use mathlib.Core.Bool.{Bool}
use mathlib.Core.List.{List, [], ◌∷◌, ◌++◌, map, reverse, reverse-reverse}
use Prim.Native.Nat.{ℕ, zero, suc, ◌+◌, ◌-◌, ◌*◌, ◌<◌}
use native.Mathlib.Nat.{zero-add, suc-add}
use native.Mathlib.Omega.{arith}
use lib.Dec.{lit<}
use lib.ListN.{length, take, drop, length-drop, length-reverse}
use lib.Seq.{take_at, drop_at, length-take-le}
use Rattle.bits.specs.Bytes.{word, value, Bytes, bits, bytes}
use Rattle.bits.specs.Turned.{turned, Turns}
use Rattle.bits.proofs.Packing.{bits_injective}
use Rattle.bits.proofs.Spelling.{bytes-word-cons}
use Rattle.bits.proofs.Word.{length-word, value_bound, word_value}

pub word-turned : (b : ℕ) → word 8 (turned b) ≡ reverse (word 8 b)
unfolding word turned
word-turned b = word_value (reverse (word 8 b))

pub turned_bound : (b : ℕ) → turned b < 256
unfolding word turned
turned_bound b = value_bound (reverse (word 8 b))

word_turned_twice : (b : ℕ) → word 8 (turned (turned b)) ≡ word 8 b
word_turned_twice b = word-turned (turned b) ∙ ap reverse (word-turned b) ∙ reverse-reverse (word 8 b)

pub bits_turned_twice : (s : List ℕ) → bits (map turned (map turned s)) ≡ bits s
unfolding bits
bits_turned_twice [] = refl
bits_turned_twice (b ∷ s) = ap₂ ◌++◌ (word_turned_twice b) (bits_turned_twice s)

pub Bytes-turned : (s : List ℕ) → Bytes (map turned s)
Bytes-turned [] i = lit< tt
Bytes-turned (b ∷ s) zero = turned_bound b
Bytes-turned (b ∷ s) (suc i) = Bytes-turned s i

pub turned_all_twice : (s : List ℕ) → Bytes s → map turned (map turned s) ≡ s
turned_all_twice s h = bits_injective (map turned (map turned s)) s (Bytes-turned (map turned s)) h (bits_turned_twice s)

-- A string of n bytes with the bits of each of them turned round.
unfoldable pub eights : ℕ → List Bool → List Bool
eights zero s = []
eights (suc n) s = reverse (take 8 s) ++ eights n (drop 8 s)

bytes-eights : (n : ℕ) (s : List Bool) → length s ≡ 8 * n → bytes n (eights n s) ≡ map turned (bytes n s)
unfolding bytes eights turned
bytes-eights zero s e = refl
bytes-eights (suc n) s e =
    ap₂ (λ (p q : List Bool). value p ∷ bytes n q)
    (take_at (reverse (take 8 s)) (eights n (drop 8 s)) 8 (length-reverse (take 8 s) ∙ eight)
    ∙ ap reverse (sym (word_value (take 8 s)) ∙ ap (λ (k : ℕ). word k (value (take 8 s))) eight))
    (drop_at (reverse (take 8 s)) (eights n (drop 8 s)) 8 (length-reverse (take 8 s) ∙ eight))
    ∙ ap (λ (r : List ℕ). turned (value (take 8 s)) ∷ r) (bytes-eights n (drop 8 s) (omega (arith, length-drop 8 s)))
  where
    eight : length (take 8 s) ≡ 8
    eight = length-take-le 8 s (omega arith)

module _ (w r : ℕ) where
  Turned : ℕ → Type 0
  Turned n = bytes n (word (8 * n) r) ≡ map turned (bytes n (word (8 * n) w))

  -- The lowest k of m + k bytes.
  fewer : (m k : ℕ) → Turned (m + k) → Turned k
  unfolding Turned
  fewer zero k e = rw zero-add at e
  fewer (suc m) k e =
      let more : Turned (suc (m + k)) = rw suc-add at e in
      fewer m k (ap (drop 1) (sym (bytes-word-cons (m + k) r) ∙ more ∙ ap (map turned) (bytes-word-cons (m + k) w)))

  pub turns : word 64 r ≡ eights 8 (word 64 w) → Turns w r
  unfolding Turned
  turns e k h =
      let all : 8 ≡ 8 - k + k = omega arith in
      fewer (8 - k) k (rw (← all) (ap (bytes 8) e ∙ bytes-eights 8 (word 64 w) (length-word 64 w)))
