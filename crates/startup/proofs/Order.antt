-- The order of bits in a byte: an involution on byte strings, which carries the laws of bits, bytes and flips over to each edition.
-- Assumes nothing.
use mathlib.Core.Path.{◌≡◌, refl, sym, ap, ◌∙◌}
use mathlib.Core.Bool.{Bool, false}
use mathlib.Core.List.{List, [], ◌∷◌, ◌++◌, map, map-append, reverse}
use Prim.Native.Nat.{ℕ, zero, suc, ◌+◌, ◌*◌, ◌<◌}
use native.Mathlib.Nat.{le_of_eq, le_of_suc-le-suc, not-suc-le-zero}
use native.Mathlib.Omega.{arith}
use lib.ListN.{length, get_or, length-map, get_or-append}
use lib.Seq.{get_or-append-add}
use Rattle.bits.specs.Bytes.{bit, word, Bytes, bits, bytes, flip}
use Rattle.bits.specs.Strings.{◌⊞◌}
use Rattle.bits.specs.Turned.{turned}
use Rattle.bits.proofs.Flip.{Flips, length-flip, bits-flip, flip-flip, flip_twice, flip-append, sum-flip, flip-sum}
use Rattle.bits.proofs.Packing.{bits-append, length-bits, length-bytes, bytes_bits, bits-bytes, bytes-append, bytes_are_bytes, bits_injective}
use Rattle.bits.proofs.Sum.{length-sum, sum_comm, sum_twice}
use Rattle.bits.proofs.Turned.{word-turned, bits_turned_twice, turned_all_twice, Bytes-turned}
use Rattle.bits.proofs.Word.{length-word, get_or-word}
use Rattle.generators.proofs.Keystream.{Flipping}
use Rattle.machine.specs.declared.edition.Edition.{Edition}
use Rattle.machine.specs.declared.edition.Edition.TheVariants.{First, Second}
use Rattle.startup.specs.Editions.{ordered, bits_in, bytes_in, flip_in}
use Rattle.startup.specs.Laws.{weight, Order}

-- ---- place by place

-- Bit j of byte i of a string, from the top down.
bits-place : (s : List ℕ) (i j : ℕ) → i < length s → j < 8 → get_or (bits s) (8 * i + j) false ≡ get_or (word 8 (get_or s i 0)) j false
unfolding bits
bits-place [] i j h k = absurd (not-suc-le-zero h)
bits-place (b ∷ s) zero j h k =
    ap (λ (n : ℕ). get_or (word 8 b ++ bits s) n false) (omega arith) ∙ get_or-append (word 8 b) (bits s) false j (omega (arith, length-word 8 b))
bits-place (b ∷ s) (suc i) j h k =
    let behind : 8 * suc i + j ≡ length (word 8 b) + (8 * i + j) = omega (arith, length-word 8 b) in
    ap (λ (n : ℕ). get_or (word 8 b ++ bits s) n false) behind ∙ get_or-append-add (word 8 b) (bits s) (8 * i + j) false
    ∙ bits-place s i j (le_of_suc-le-suc h) k

turned-place : (s : List ℕ) (i : ℕ) → i < length s → get_or (map turned s) i 0 ≡ turned (get_or s i 0)
turned-place [] i h = absurd (not-suc-le-zero h)
turned-place (b ∷ s) zero h = refl
turned-place (b ∷ s) (suc i) h = turned-place s i (le_of_suc-le-suc h)

reversed_place : (b j : ℕ) → j < 8 → get_or (reverse (word 8 b)) j false ≡ bit j b
unfolding word
reversed_place b zero h = refl
reversed_place b (suc zero) h = refl
reversed_place b (suc (suc zero)) h = refl
reversed_place b (suc (suc (suc zero))) h = refl
reversed_place b (suc (suc (suc (suc zero)))) h = refl
reversed_place b (suc (suc (suc (suc (suc zero))))) h = refl
reversed_place b (suc (suc (suc (suc (suc (suc zero)))))) h = refl
reversed_place b (suc (suc (suc (suc (suc (suc (suc zero))))))) h = refl
reversed_place b (suc (suc (suc (suc (suc (suc (suc (suc j)))))))) h = absurd (omega arith)

places : (e : Edition) (s : List ℕ) (i j : ℕ) → i < length s → j < 8 → get_or (bits_in e s) (8 * i + j) false ≡ bit (weight e j) (get_or s i 0)
unfolding bits_in ordered
places First s i j h k = bits-place s i j h k ∙ get_or-word 8 (get_or s i 0) j k ∙ ap (λ (n : ℕ). bit n (get_or s i 0)) (omega arith)
places Second s i j h k =
    bits-place (map turned s) i j (rw length-map h) k
    ∙ ap (λ (b : ℕ). get_or (word 8 b) j false) (turned-place s i h)
    ∙ ap (λ (r : List Bool). get_or r j false) (word-turned (get_or s i 0)) ∙ reversed_place (get_or s i 0) j k

-- ---- the involution

pub length-ordered : (e : Edition) (s : List ℕ) → length (ordered e s) ≡ length s
unfolding ordered
length-ordered First s = refl
length-ordered Second s = length-map s turned

pub ordered-none : (e : Edition) → ordered e [] ≡ []
unfolding ordered
ordered-none First = refl
ordered-none Second = refl

ordered-append : (e : Edition) (s t : List ℕ) → ordered e (s ++ t) ≡ ordered e s ++ ordered e t
unfolding ordered
ordered-append First s t = refl
ordered-append Second s t = map-append turned s t

pub ordered-bytes : (e : Edition) (s : List ℕ) → Bytes s → Bytes (ordered e s)
unfolding ordered
ordered-bytes First s h = h
ordered-bytes Second s h = Bytes-turned s

pub ordered_twice : (e : Edition) (s : List ℕ) → Bytes s → ordered e (ordered e s) ≡ s
unfolding ordered
ordered_twice First s h = refl
ordered_twice Second s h = turned_all_twice s h

bits_ordered_twice : (e : Edition) (s : List ℕ) → bits (ordered e (ordered e s)) ≡ bits s
unfolding ordered
bits_ordered_twice First s = refl
bits_ordered_twice Second s = bits_turned_twice s

module _ (e : Edition) where
  -- ---- bits and bytes

  pub bits_in-append : (s t : List ℕ) → bits_in e (s ++ t) ≡ bits_in e s ++ bits_in e t
  unfolding bits_in
  bits_in-append s t = ap bits (ordered-append e s t) ∙ bits-append (ordered e s) (ordered e t)

  pub length-bits_in : (s : List ℕ) → length (bits_in e s) ≡ 8 * length s
  unfolding bits_in
  length-bits_in s = length-bits (ordered e s) ∙ ap (λ (n : ℕ). 8 * n) (length-ordered e s)

  pub as_many_bits_in : (s t : List ℕ) → length s ≡ length t → length (bits_in e s) ≡ length (bits_in e t)
  as_many_bits_in s t h = length-bits_in s ∙ ap (λ (n : ℕ). 8 * n) h ∙ sym (length-bits_in t)

  pub length-bytes_in : (n : ℕ) (s : List Bool) → length (bytes_in e n s) ≡ n
  unfolding bytes_in
  length-bytes_in n s = length-ordered e (bytes n s) ∙ length-bytes n s

  pub bytes_in-append : (m n : ℕ) (s t : List Bool) → length s ≡ 8 * m → bytes_in e (m + n) (s ++ t) ≡ bytes_in e m s ++ bytes_in e n t
  unfolding bytes_in
  bytes_in-append m n s t h = ap (ordered e) (bytes-append m n s t h) ∙ ordered-append e (bytes m s) (bytes n t)

  pub bytes_in_are_bytes : (n : ℕ) (s : List Bool) → Bytes (bytes_in e n s)
  unfolding bytes_in
  bytes_in_are_bytes n s = ordered-bytes e (bytes n s) (bytes_are_bytes n s)

  pub bytes_in-bits_in : (s : List ℕ) → Bytes s → bytes_in e (length s) (bits_in e s) ≡ s
  unfolding bits_in bytes_in
  bytes_in-bits_in s h =
      ap (λ (n : ℕ). ordered e (bytes n (bits (ordered e s)))) (sym (length-ordered e s))
      ∙ ap (ordered e) (bytes_bits (ordered e s) (ordered-bytes e s h)) ∙ ordered_twice e s h

  pub bits_in-bytes_in : (n : ℕ) (s : List Bool) → length s ≡ 8 * n → bits_in e (bytes_in e n s) ≡ s
  unfolding bits_in bytes_in
  bits_in-bytes_in n s h = bits_ordered_twice e (bytes n s) ∙ bits-bytes n s h

  pub bits_in_injective : (s t : List ℕ) → Bytes s → Bytes t → bits_in e s ≡ bits_in e t → s ≡ t
  unfolding bits_in
  bits_in_injective s t hs ht same =
      sym (ordered_twice e s hs)
      ∙ ap (ordered e) (bits_injective (ordered e s) (ordered e t) (ordered-bytes e s hs) (ordered-bytes e t ht) same)
      ∙ ordered_twice e t ht

  -- ---- flips

  -- What is flipped in its order is, in that order, flipped.
  ordered-flip : (s : List ℕ) (d : List Bool) → ordered e (flip_in e s d) ≡ flip (ordered e s) d
  unfolding flip_in flip
  ordered-flip s d = ordered_twice e (flip (ordered e s) d) (bytes_are_bytes _ _)

  in_order : (s : List ℕ) (d : List Bool) → Flips s d → Flips (ordered e s) d
  in_order s d h = h ∙ ap (λ (n : ℕ). 8 * n) (sym (length-ordered e s))

  pub length-flip_in : (s : List ℕ) (d : List Bool) → length (flip_in e s d) ≡ length s
  unfolding flip_in
  length-flip_in s d = length-ordered e (flip (ordered e s) d) ∙ length-flip (ordered e s) d ∙ length-ordered e s

  pub bits_in-flip_in : (s : List ℕ) (d : List Bool) → Flips s d → bits_in e (flip_in e s d) ≡ bits_in e s ⊞ d
  unfolding bits_in
  bits_in-flip_in s d h = ap bits (ordered-flip s d) ∙ bits-flip (ordered e s) d (in_order s d h)

  pub flip_in_are_bytes : (s : List ℕ) (d : List Bool) → Bytes (flip_in e s d)
  unfolding flip_in flip
  flip_in_are_bytes s d = ordered-bytes e (flip (ordered e s) d) (bytes_are_bytes _ _)

  pub flip_in-flip_in : (s : List ℕ) (d f : List Bool) → Flips s d → flip_in e (flip_in e s d) f ≡ flip_in e s (d ⊞ f)
  flip_in-flip_in s d f h =
      unfold flip_in in (ap (λ (t : List ℕ). ordered e (flip t f)) (ordered-flip s d) ∙ ap (ordered e) (flip-flip (ordered e s) d f (in_order s d h)))

  pub flip_in_twice : (s : List ℕ) (d : List Bool) → Bytes s → Flips s d → flip_in e (flip_in e s d) d ≡ s
  unfolding flip_in
  flip_in_twice s d b h =
      ap (λ (t : List ℕ). ordered e (flip t d)) (ordered-flip s d)
      ∙ ap (ordered e) (flip_twice (ordered e s) d (ordered-bytes e s b) (in_order s d h)) ∙ ordered_twice e s b

  -- Three flips of which the first and the last are the same are the one in the middle.
  pub flip_between : (s : List ℕ) (k d : List Bool) → Flips s k → Flips s d → flip_in e (flip_in e (flip_in e s k) d) k ≡ flip_in e s d
  flip_between s k d hk hd =
      flip_in-flip_in (flip_in e s k) d k (hd ∙ ap (λ (n : ℕ). 8 * n) (sym (length-flip_in s k)))
      ∙ flip_in-flip_in s k (d ⊞ k) hk
      ∙ ap (λ (r : List Bool). flip_in e s (k ⊞ r)) (sum_comm d k)
      ∙ ap (flip_in e s) (sum_twice k d (le_of_eq (hk ∙ sym hd)))

  pub flip_in-append : (s t : List ℕ) (d f : List Bool) → Flips s d → flip_in e (s ++ t) (d ++ f) ≡ flip_in e s d ++ flip_in e t f
  unfolding flip_in
  flip_in-append s t d f h =
      ap (λ (u : List ℕ). ordered e (flip u (d ++ f))) (ordered-append e s t)
      ∙ ap (ordered e) (flip-append (ordered e s) (ordered e t) d f (in_order s d h))
      ∙ ordered-append e (flip (ordered e s) d) (flip (ordered e t) f)

  pub flipping : Flipping (flip_in e)
  flipping = record { length = length-flip_in; append = flip_in-append; twice = flip_in_twice }

  -- The bytes of the sum of a string's bits and flips.
  pub flip_in-bytes : (s : List ℕ) (d : List Bool) → bytes_in e (length s) (bits_in e s ⊞ d) ≡ flip_in e s d
  unfolding bits_in bytes_in flip_in flip
  flip_in-bytes s d = ap (λ (n : ℕ). ordered e (bytes n (bits (ordered e s) ⊞ d))) (sym (length-ordered e s))

  pub sum-flip_in : (s : List ℕ) (d : List Bool) → Flips s d → bits_in e s ⊞ bits_in e (flip_in e s d) ≡ d
  unfolding bits_in
  sum-flip_in s d h = ap (λ (t : List ℕ). bits (ordered e s) ⊞ bits t) (ordered-flip s d) ∙ sum-flip (ordered e s) d (in_order s d h)

  pub length-sum-bits_in : (s t : List ℕ) → length s ≡ length t → Flips s (bits_in e s ⊞ bits_in e t)
  length-sum-bits_in s t h = length-sum (bits_in e s) (bits_in e t) (as_many_bits_in s t h) ∙ length-bits_in s

  pub flip_in-sum : (s t : List ℕ) → Bytes t → length s ≡ length t → flip_in e s (bits_in e s ⊞ bits_in e t) ≡ t
  unfolding bits_in flip_in
  flip_in-sum s t b h =
      ap (ordered e) (flip-sum (ordered e s) (ordered e t) (ordered-bytes e t b) (length-ordered e s ∙ h ∙ sym (length-ordered e t)))
      ∙ ordered_twice e t b

pub order : (e : Edition) → Order e
order e = record { places = places e; there = bytes_in-bits_in e; back = bits_in-bytes_in e; flips = bits_in-flip_in e }
