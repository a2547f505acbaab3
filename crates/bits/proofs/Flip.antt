-- Flipped bits of byte strings: flips add up, join as strings join, and undo themselves.
-- Assumes nothing.
use mathlib.Core.Path.{◌≡◌, sym, ap, ap₂, ◌∙◌}
use mathlib.Core.Bool.{Bool}
use mathlib.Core.List.{List, ◌++◌}
use Prim.Native.Nat.{ℕ, ◌*◌}
use native.Mathlib.Nat.{le_of_eq}
use lib.ListN.{length, length-append}
use Rattle.bits.specs.Bytes.{Bytes, bits, bytes, flip}
use Rattle.bits.specs.Strings.{◌⊞◌, zeros}
use Rattle.bits.proofs.Packing.{bits-append, length-bits, as_many_bits, length-bytes, bytes_bits, bits-bytes, bytes-append}
use Rattle.bits.proofs.Sum.{sum_assoc, sum_self, sum_zeros, sum-append, sum_twice, length-sum}

-- There is one flip for each bit of the string.
abbrev pub Flips : List ℕ → List Bool → Type 0
Flips s d = length d ≡ 8 * length s

pub length-flip : (s : List ℕ) (d : List Bool) → length (flip s d) ≡ length s
unfolding flip
length-flip s d = length-bytes (length s) (bits s ⊞ d)

length-flipped : (s : List ℕ) (d : List Bool) → Flips s d → length (bits s ⊞ d) ≡ 8 * length s
length-flipped s d h = length-sum (bits s) d (length-bits s ∙ sym h) ∙ length-bits s

pub bits-flip : (s : List ℕ) (d : List Bool) → Flips s d → bits (flip s d) ≡ bits s ⊞ d
unfolding flip
bits-flip s d h = bits-bytes (length s) (bits s ⊞ d) (length-flipped s d h)

pub flip-flip : (s : List ℕ) (d e : List Bool) → Flips s d → flip (flip s d) e ≡ flip s (d ⊞ e)
flip-flip s d e h = unfold flip in (ap₂ (λ (n : ℕ) (b : List Bool). bytes n (b ⊞ e)) (length-flip s d) (bits-flip s d h) ∙ ap (bytes (length s)) (sum_assoc (bits s) d e))

pub flip-none : (s : List ℕ) (n : ℕ) → Bytes s → n ≡ 8 * length s → flip s (zeros n) ≡ s
unfolding flip
flip-none s n h e = ap (bytes (length s)) (sum_zeros (bits s) n (le_of_eq (e ∙ sym (length-bits s)))) ∙ bytes_bits s h

pub flip_twice : (s : List ℕ) (d : List Bool) → Bytes s → Flips s d → flip (flip s d) d ≡ s
flip_twice s d h e = flip-flip s d d e ∙ ap (flip s) (sum_self d) ∙ flip-none s (length d) h e

pub flip-append : (s t : List ℕ) (d e : List Bool) → Flips s d → flip (s ++ t) (d ++ e) ≡ flip s d ++ flip t e
unfolding flip
flip-append s t d e h =
    ap₂ bytes (length-append s t) (ap (λ (b : List Bool). b ⊞ (d ++ e)) (bits-append s t) ∙ sum-append (bits s) d (bits t) e (length-bits s ∙ sym h))
    ∙ bytes-append (length s) (length t) (bits s ⊞ d) (bits t ⊞ e) (length-flipped s d h)

-- The sum of a string and what flips make of it is the flips.
pub sum-flip : (s : List ℕ) (d : List Bool) → Flips s d → bits s ⊞ bits (flip s d) ≡ d
sum-flip s d h = ap (λ (r : List Bool). bits s ⊞ r) (bits-flip s d h) ∙ sum_twice (bits s) d (le_of_eq (length-bits s ∙ sym h))

-- With the sum of two strings of one length as flips, the first is the second.
pub flip-sum : (s t : List ℕ) → Bytes t → length s ≡ length t → flip s (bits s ⊞ bits t) ≡ t
unfolding flip
flip-sum s t h e = ap₂ bytes e (sum_twice (bits s) (bits t) (le_of_eq (as_many_bits s t e))) ∙ bytes_bits t h
