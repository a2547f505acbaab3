-- The number that a string of bits is, signed or not: how it is computed, its range, and the string that it came from.
-- Assumes nothing.
use mathlib.Core.Path.{◌≡◌, refl, sym, ap, ap₂, subst, ◌∙◌}
use mathlib.Core.Bool.{Bool, true, false, cond}
use mathlib.Core.List.{List, [], ◌∷◌}
use Prim.Native.Nat.{ℕ, zero, suc, ◌+◌, ◌-◌, ◌*◌, ◌%◌, ◌^◌, ◌<◌, ◌≤◌, zero-le, suc-le-suc}
use native.Mathlib.Nat.{suc_inj, le_of_suc-le-suc, not-suc-le-zero, lt_of_lt_of_le, zero-mul, one-mul, add-zero, pow-suc}
use native.Mathlib.Omega.{arith}
use borrow.Author.Tests.{lt-ltb}
use lib.Arith.{comp_comp}
use lib.Dec.{T, leb→le, le→leb, lt→ltb}
use lib.Ieee.{binary64, in_float}
use lib.IntN.{ℤ, pos, negsuc, neg_ℤ, ◌-ℤ◌}
use lib.ListN.{length}
use lib.Pow.{pow_mono, pow_pos, low, le_ones, lt_of_le_ones}
use lib.Signed.{mag, ◌≤ℤ◌, le_z_yes}
use Rattle.bits.specs.Bit.{digit}
use Rattle.bits.specs.Bytes.{word, value}
use Rattle.bits.proofs.Word.{length-word, value_bound, value-word-small, word_value}
use Rattle.signals.specs.Raw.{misplaced, field, twos_complement, number, raw}
use Rattle.signals.specs.Writing.{InRange, complement}
use Rattle.signals.proofs.Placed.{placed, length-field}

-- ---- two's complement

below-zero : (a b : ℕ) → a < b → pos a -ℤ pos b ≡ negsuc (b - suc a)
below-zero a zero h = absurd (not-suc-le-zero h)
below-zero a (suc b) h = ap (λ (t : Bool). cond t (negsuc (suc b - suc a)) (pos (a - suc b))) (lt-ltb a (suc b) h)

top_clear : (s : List Bool) → twos_complement (false ∷ s) ≡ pos (value s)
top_clear s = ap (λ (n : ℕ). pos (value s) -ℤ pos n) (zero-mul (2 ^ length s)) ∙ ap pos (add-zero (value s))

top_set : (s : List Bool) → twos_complement (true ∷ s) ≡ negsuc (2 ^ length s - suc (value s))
top_set s = ap (λ (n : ℕ). pos (value s) -ℤ pos n) (one-mul (2 ^ length s)) ∙ below-zero (value s) (2 ^ length s) (value_bound s)

-- The lower bits count as they are, and the top bit negative.
pub twos_complement_lem : (s : List Bool) (width : ℕ) → length s ≡ width → 1 ≤ width
    → twos_complement s ≡ pos (value s % 2 ^ (width - 1)) -ℤ pos (value s - value s % 2 ^ (width - 1))
unfolding value
twos_complement_lem [] width e h = absurd (omega arith)
twos_complement_lem (b ∷ s) width e h = ap₂ (λ (p q : ℕ). pos p -ℤ pos q) (sym lower) upper
  where
    before : width - 1 ≡ length s
    before = omega arith

    lower : value (b ∷ s) % 2 ^ (width - 1) ≡ value s
    lower = ap (λ (k : ℕ). value (b ∷ s) % 2 ^ k) before ∙ low (digit b) (length s) (value_bound s)

    upper : digit b * 2 ^ length s ≡ value (b ∷ s) - value (b ∷ s) % 2 ^ (width - 1)
    upper = omega (arith, lower)

-- ---- its range

pub neg-pos : (a n : ℕ) → neg_ℤ (pos a) ≤ℤ pos n
neg-pos zero n = le_z_yes (le→leb 0 n zero-le)
neg-pos (suc a) n = le_z_yes tt

neg-negsuc : (a n : ℕ) → n < a → neg_ℤ (pos a) ≤ℤ negsuc n
neg-negsuc zero n h = absurd (not-suc-le-zero h)
neg-negsuc (suc a) n h = le_z_yes (le→leb n a (le_of_suc-le-suc h))

negsuc-neg : (a n : ℕ) → neg_ℤ (pos a) ≤ℤ negsuc n → n < a
negsuc-neg zero n h = absurd h.le
negsuc-neg (suc a) n h = suc-le-suc (leb→le n a h.le)

abbrev Within : (k : ℕ) → ℤ → Type 0
Within k n = (neg_ℤ (pos (2 ^ k)) ≤ℤ n) × (n ≤ℤ pos (2 ^ k - 1))

signed_range : (s : List Bool) (k : ℕ) → length s ≡ suc k → Within k (twos_complement s)
signed_range [] k e = absurd (omega arith)
signed_range (false ∷ s) k e =
    let bound : value s < 2 ^ k = omega (arith, value_bound s, ap (λ (n : ℕ). 2 ^ n) (suc_inj e)) in
    subst (Within k) (sym (top_clear s)) (neg-pos (2 ^ k) (value s), le_z_yes (le→leb (value s) (2 ^ k - 1) (le_ones k bound)))
signed_range (true ∷ s) k e =
    let bound : 2 ^ length s - suc (value s) < 2 ^ k = omega (arith, value_bound s, ap (λ (n : ℕ). 2 ^ n) (suc_inj e)) in
    subst (Within k) (sym (top_set s)) (neg-negsuc (2 ^ k) (2 ^ length s - suc (value s)) bound, le_z_yes tt)

in-range : (width : ℕ) (signed : Bool) (s : List Bool) → length s ≡ width → 1 ≤ width → InRange width signed (number signed s)
in-range width true s e h = signed_range s (width - 1) (omega arith)
in-range width false s e h =
    let bound : value s < 2 ^ width = omega (arith, value_bound s, ap (λ (n : ℕ). 2 ^ n) e) in
    (le_z_yes (le→leb 0 (value s) zero-le), le_z_yes (le→leb (value s) (2 ^ width - 1) (le_ones width bound)))

-- ---- a number and its string

complement-number : (signed : Bool) (s : List Bool) → complement (length s) (number signed s) ≡ value s
unfolding value
complement-number false s = refl
complement-number true [] = refl
complement-number true (false ∷ s) = ap (complement (suc (length s))) (top_clear s) ∙ omega arith
complement-number true (true ∷ s) = ap (complement (suc (length s))) (top_set s) ∙ omega (arith, pow-suc 2 (length s), value_bound s)

pub word_number : (width : ℕ) (signed : Bool) (s : List Bool) → length s ≡ width → word width (complement width (number signed s)) ≡ s
word_number width signed s e =
    ap (λ (k : ℕ). word k (complement k (number signed s))) (sym e) ∙ ap (word (length s)) (complement-number signed s) ∙ word_value s

word-cons : (b : Bool) (k r : ℕ) → r < 2 ^ k → word (suc k) (digit b * 2 ^ k + r) ≡ b ∷ word k r
unfolding value
word-cons b k r h =
    ap₂ (λ (j x : ℕ). word (suc j) x) (sym (length-word k r)) (ap₂ (λ (j x : ℕ). digit b * 2 ^ j + x) (sym (length-word k r)) (sym (value-word-small k r h)))
    ∙ word_value (b ∷ word k r)

word-pos : (k n : ℕ) → n < 2 ^ k → twos_complement (word (suc k) n) ≡ pos n
word-pos k n h =
    let whole : n ≡ 0 * 2 ^ k + n = omega arith in
    ap (λ (x : ℕ). twos_complement (word (suc k) x)) whole ∙ ap twos_complement (word-cons false k n h)
    ∙ top_clear (word k n) ∙ ap pos (value-word-small k n h)

word-negsuc : (k n : ℕ) → n < 2 ^ k → twos_complement (word (suc k) (2 ^ suc k - suc n)) ≡ negsuc n
word-negsuc k n h =
    ap (λ (x : ℕ). twos_complement (word (suc k) x)) whole ∙ ap twos_complement (word-cons true k rest small)
    ∙ top_set (word k rest)
    ∙ ap₂ (λ (j x : ℕ). negsuc (2 ^ j - suc x)) (length-word k rest) (value-word-small k rest small)
    ∙ ap negsuc (comp_comp h)
  where
    rest : ℕ
    rest = 2 ^ k - suc n

    small : rest < 2 ^ k
    small = omega arith

    whole : 2 ^ suc k - suc n ≡ 1 * 2 ^ k + rest
    whole = omega (arith, pow-suc 2 k)

signed_back : (k : ℕ) (n : ℤ) → Within k n → twos_complement (word (suc k) (complement (suc k) n)) ≡ n
signed_back k (pos n) h = word-pos k n (lt_of_le_ones k (leb→le n (2 ^ k - 1) h.1.le))
signed_back k (negsuc n) h = word-negsuc k n (negsuc-neg (2 ^ k) n h.0)

pub number_word : (width : ℕ) (signed : Bool) (n : ℤ) → 1 ≤ width → InRange width signed n → number signed (word width (complement width n)) ≡ n
number_word width false (pos n) h r = ap pos (value-word-small width n (lt_of_le_ones width (leb→le n (2 ^ width - 1) r.1.le)))
number_word width false (negsuc n) h r = absurd r.0.le
number_word width true n h r =
    let whole : width ≡ suc (width - 1) = omega arith in
    ap (λ (k : ℕ). twos_complement (word k (complement k n))) whole ∙ signed_back (width - 1) n r

-- ---- its size

mag_number : (signed : Bool) (s : List Bool) → mag (number signed s) < 2 ^ length s
mag_number false s = value_bound s
mag_number true [] = pow_pos 0
mag_number true (false ∷ s) = subst (λ (z : ℤ). mag z < 2 ^ suc (length s)) (sym (top_clear s)) (omega (arith, pow-suc 2 (length s), value_bound s))
mag_number true (true ∷ s) = subst (λ (z : ℤ). mag z < 2 ^ suc (length s)) (sym (top_set s)) (omega (arith, pow-suc 2 (length s), value_bound s))

in-float : (z : ℤ) → mag z < 2 ^ 32 → T (in_float binary64 z)
unfolding in_float
in-float (pos n) h = le→leb n (2 ^ 53) (omega arith)
in-float (negsuc n) h = lt→ltb n (2 ^ 53) (omega arith)

-- ---- of a signal

module _ (message : List ℕ) (start width : ℕ) (at : misplaced (length message) start width ≡ false) where
  as_long : length (field message start width) ≡ width
  as_long = length-field message start width (placed (length message) start width at).inside

  pub field_bound : value (field message start width) < 2 ^ width
  field_bound = subst (λ (k : ℕ). value (field message start width) < 2 ^ k) as_long (value_bound (field message start width))

  pub field-small : value (field message start width) < 2 ^ 32
  field-small = lt_of_lt_of_le field_bound (pow_mono {j = 32} (placed (length message) start width at).most)

  pub raw-in_range : (signed : Bool) → InRange width signed (raw message start width signed)
  raw-in_range signed = in-range width signed (field message start width) as_long (placed (length message) start width at).least

  raw-small : (signed : Bool) → mag (raw message start width signed) < 2 ^ 32
  raw-small signed =
      lt_of_lt_of_le (mag_number signed (field message start width))
      (pow_mono {j = 32} (subst (λ (k : ℕ). k ≤ 32) (sym as_long) (placed (length message) start width at).most))

  pub raw_in_float : (signed : Bool) → T (in_float binary64 (raw message start width signed))
  raw_in_float signed = in-float (raw message start width signed) (raw-small signed)
