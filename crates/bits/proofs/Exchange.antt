-- Where the bits of a word come from as those that a mask shows are exchanged with others above them.
-- Assumes nothing.
use mathlib.Core.Path.{◌≡◌, refl, sym, ap, ap₂, ◌∙◌}
use mathlib.Core.Bool.{Bool, true, false, true≢false, ◌&&◌, cond, and-true, and-false}
use mathlib.Core.List.{List, [], ◌∷◌}
use Prim.Native.Nat.{ℕ, zero, suc, ◌+◌, ◌-◌, ◌*◌, ◌/◌, ◌%◌, ◌^◌, ◌≤◌, ◌<◌}
use native.Mathlib.Nat.{mul_assoc, mul-le-mul_right, lt_of_le_of_lt, mod-eq_of_lt, zero-div}
use native.Mathlib.Decide.{dec_lt}
use native.Mathlib.Omega.{arith}
use lib.Bits.{bit_xor, bit_and, and_le_r, shifted_even}
use lib.Pow.{pow-add, shl-shr, shr-shr}
use Rattle.bits.specs.Bit.{◌⊻◌}
use Rattle.bits.specs.Bytes.{is_one, lowest, bit, word}
use Rattle.bits.specs.Exchange.{Rearranged, source}
use Rattle.bits.proofs.Lowest.{bit-xor, bit-and}
use Rattle.bits.proofs.Sum.{xor_false, xor_self, xor_comm, xor_assoc}

-- The bits of a number moved up by s places: zeros, and above them its own.
bit_below : (s i y : ℕ) → i < s → bit i (y * 2 ^ s) ≡ false
bit_below s i y h =
    let d = s - suc i in
    let far : s ≡ suc d + i = omega arith in
    ap (λ (k : ℕ). bit i (y * 2 ^ k)) far
    ∙ ap (bit i) (ap (λ (p : ℕ). y * p) (pow-add 2 (suc d) i) ∙ sym (mul_assoc y (2 ^ suc d) (2 ^ i)))
    ∙ ap lowest (shl-shr (y * 2 ^ suc d) i) ∙ ap is_one (shifted_even y d)

bit_above : (s i y : ℕ) → s ≤ i → bit i (y * 2 ^ s) ≡ bit (i - s) y
bit_above s i y h =
    let far : i ≡ s + (i - s) = omega arith in
    ap (λ (k : ℕ). bit k (y * 2 ^ s)) far ∙ ap lowest (sym (shr-shr (y * 2 ^ s) s (i - s)) ∙ ap (λ (z : ℕ). z / 2 ^ (i - s)) (shl-shr y s))

-- What is added twice is not there.
xor_twice : (a b : Bool) → a ⊻ (a ⊻ b) ≡ b
xor_twice a b = sym (xor_assoc a a b) ∙ ap (λ (c : Bool). c ⊻ b) (xor_self a)

-- A bit that takes its difference from another becomes that other.
chosen : (x i up down : ℕ) (m n : Bool) → (m && n) ≡ false
    → bit i x ⊻ ((bit i x ⊻ bit up x) && m) ⊻ ((bit down x ⊻ bit i x) && n) ≡ bit (cond m up (cond n down i)) x
chosen x i up down true true e = absurd (true≢false e)
chosen x i up down true false e =
    ap₂ (λ (b c : Bool). bit i x ⊻ b ⊻ c) (and-true (bit i x ⊻ bit up x)) (and-false (bit down x ⊻ bit i x))
    ∙ xor_false (bit i x ⊻ (bit i x ⊻ bit up x)) ∙ xor_twice (bit i x) (bit up x)
chosen x i up down false true e =
    ap₂ (λ (b c : Bool). bit i x ⊻ b ⊻ c) (and-false (bit i x ⊻ bit up x)) (and-true (bit down x ⊻ bit i x) ∙ xor_comm (bit down x) (bit i x))
    ∙ ap (λ (b : Bool). b ⊻ (bit i x ⊻ bit down x)) (xor_false (bit i x)) ∙ xor_twice (bit i x) (bit down x)
chosen x i up down false false e =
    ap₂ (λ (b c : Bool). bit i x ⊻ b ⊻ c) (and-false (bit i x ⊻ bit up x)) (and-false (bit down x ⊻ bit i x))
    ∙ xor_false (bit i x ⊻ false) ∙ xor_false (bit i x)

-- The bits that the mask shows and that differ from those above them.
abbrev pub differing : (x by mask : ℕ) → ℕ
differing x by mask = bit_and (bit_xor x (x / 2 ^ by)) mask

module _ (x by mask : ℕ) where
  bit-differing : (i : ℕ) → bit i (differing x by mask) ≡ ((bit i x ⊻ bit (by + i) x) && bit i mask)
  bit-differing i =
      bit-and i (bit_xor x (x / 2 ^ by)) mask
      ∙ ap (λ (b : Bool). b && bit i mask) (bit-xor i x (x / 2 ^ by) ∙ ap (λ (z : ℕ). bit i x ⊻ lowest z) (shr-shr x by i))

  bit_moved : (i : ℕ) → bit i (differing x by mask * 2 ^ by) ≡ ((bit (i - by) x ⊻ bit i x) && bit i (mask * 2 ^ by))
  bit_moved i = elim (dec_lt i by) [ yes l ↦ below l | no l ↦ above (omega arith) ]
    where
      below : i < by → bit i (differing x by mask * 2 ^ by) ≡ ((bit (i - by) x ⊻ bit i x) && bit i (mask * 2 ^ by))
      below l =
          bit_below by i (differing x by mask) l
          ∙ sym (ap (λ (b : Bool). (bit (i - by) x ⊻ bit i x) && b) (bit_below by i mask l) ∙ and-false (bit (i - by) x ⊻ bit i x))

      above : by ≤ i → bit i (differing x by mask * 2 ^ by) ≡ ((bit (i - by) x ⊻ bit i x) && bit i (mask * 2 ^ by))
      above l =
          let back : by + (i - by) ≡ i = omega arith in
          bit_above by i (differing x by mask) l ∙ bit-differing (i - by)
          ∙ ap₂ (λ (k : ℕ) (b : Bool). (bit (i - by) x ⊻ bit k x) && b) back (sym (bit_above by i mask l))

  pub exchanged : mask * 2 ^ by < 2 ^ 64 → bit_and mask (mask * 2 ^ by) ≡ 0
      → Rearranged (source mask by) x (bit_xor (bit_xor x (differing x by mask)) (differing x by mask * 2 ^ by % 2 ^ 64))
  unfolding source
  exchanged inside apart = record {
    taken = λ i.
        ap (λ (t : ℕ). bit i (bit_xor (bit_xor x (differing x by mask)) t)) (mod-eq_of_lt (lt_of_le_of_lt (mul-le-mul_right (2 ^ by) (and_le_r (bit_xor x (x / 2 ^ by)) mask)) inside))
        ∙ bit-xor i (bit_xor x (differing x by mask)) (differing x by mask * 2 ^ by)
        ∙ ap₂ ◌⊻◌ (bit-xor i x (differing x by mask) ∙ ap (λ (b : Bool). bit i x ⊻ b) (bit-differing i)) (bit_moved i)
        ∙ chosen x i (by + i) (i - by) (bit i mask) (bit i (mask * 2 ^ by))
        (sym (bit-and i mask (mask * 2 ^ by)) ∙ ap (bit i) apart ∙ ap lowest (zero-div (2 ^ i)));
  }

-- One rearrangement after another.
pub rearranged_twice : {f g : ℕ → ℕ} {x y z : ℕ} → Rearranged f x y → Rearranged g y z → Rearranged (λ (i : ℕ). f (g i)) x z
rearranged_twice {g = g} first second = record { taken = λ i. second.taken i ∙ first.taken (g i) }

-- The bits of x that the n lowest bits of a rearrangement are.
unfoldable pub gathered : (f : ℕ → ℕ) (n x : ℕ) → List Bool
gathered f zero x = []
gathered f (suc n) x = bit (f n) x ∷ gathered f n x

pub word_rearranged : {f : ℕ → ℕ} {x r : ℕ} (n : ℕ) → Rearranged f x r → word n r ≡ gathered f n x
unfolding word gathered
word_rearranged zero e = refl
word_rearranged (suc n) e = ap₂ ◌∷◌ (e.taken n) (word_rearranged n e)
