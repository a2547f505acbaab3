-- The blank key: what it means that a byte string is, or is not, that key.
-- Assumes nothing.
use mathlib.Core.Path.{◌≡◌, sym, ap, ◌∙◌}
use mathlib.Core.Logic.{◌≢◌}
use mathlib.Core.Bool.{Bool, true, false, true≢false, ◌&&◌, and-true, and_assoc}
use mathlib.Core.List.{List, [], ◌∷◌}
use Prim.Native.Nat.{ℕ, zero, suc, ◌<◌}
use native.Mathlib.Omega.{arith}
use borrow.Author.Tests.{ne_eqb}
use lib.Dec.{eqb}
use lib.Bits.{bit_or, or_add_and, and_le_r, or_zero_l}
use lib.ListN.{length, get_or, replicate, length-replicate, get_or-replicate}
use lib.Seq.{ext_get_or}
use Rattle.std.specs.List.{fold}
use Rattle.std.proofs.lemmas.Bool.{false_from_ne_true}
use Rattle.bits.specs.Bytes.{same}
use Rattle.bits.proofs.Packing.{same_equal, equal_same}
use Rattle.key.specs.Sizes.{key_size}
use Rattle.key.specs.BlankKey.{blank_key, is_blank, Blank}

module _ (key : List ℕ) where
  -- Its bytes before place i are zero.
  abbrev pub ZeroTo : ℕ → Type 0
  ZeroTo i = (k : ℕ) → k < i → get_or key k 0 ≡ 0

  is_blank_lem : is_blank key ≡ true → key ≡ blank_key
  unfolding is_blank
  is_blank_lem = same_equal key blank_key

  blank_is : key ≡ blank_key → is_blank key ≡ true
  unfolding is_blank
  blank_is e = ap is_blank e ∙ equal_same blank_key

  -- The two ways to say that a key is not blank.
  pub not_blank : is_blank key ≡ false → key ≢ blank_key
  not_blank h e = true≢false (sym (blank_is e) ∙ h)

  pub unequal_not_blank : key ≢ blank_key → is_blank key ≡ false
  unequal_not_blank ne = false_from_ne_true (is_blank key) (λ h. ne (is_blank_lem h))

  zeros_blank : length key ≡ key_size → ZeroTo key_size → key ≡ blank_key
  unfolding blank_key
  zeros_blank e z = ext_get_or 0 key _ (e ∙ sym (length-replicate {A = ℕ} key_size 0)) (λ i h. z i (omega arith) ∙ sym (get_or-replicate {A = ℕ} key_size i 0 0 (omega arith)))

  blank_zeros : key ≡ blank_key → (length key ≡ key_size) × ZeroTo key_size
  unfolding blank_key
  blank_zeros e = (ap length e ∙ length-replicate {A = ℕ} key_size 0, λ i h. ap (λ (s : List ℕ). get_or s i 0) e ∙ get_or-replicate {A = ℕ} key_size i 0 0 h)

  pub wrong_size : length key ≢ key_size → is_blank key ≡ false
  wrong_size ne = unequal_not_blank (λ b. ne (blank_zeros b).0)

-- Numbers joined bit by bit are zero exactly when each of them is: of two, of a list onto another number, and of a whole key.
or_zero : (a b : ℕ) → eqb (bit_or a b) 0 ≡ (eqb a 0 && eqb b 0)
or_zero zero b = ap (λ (n : ℕ). eqb n 0) (or_zero_l b)
or_zero (suc a) b =
    ne_eqb (bit_or (suc a) b) 0 (λ e. omega (arith, or_add_and (suc a) b, and_le_r (suc a) b))
    ∙ sym (ap (λ (t : Bool). t && eqb b 0) (ne_eqb (suc a) 0 (λ e. omega arith)))

joined_zero : (s : List ℕ) (a : ℕ) → eqb (fold bit_or a s) 0 ≡ (eqb a 0 && same s (replicate (length s) 0))
unfolding same
joined_zero [] a = sym (and-true (eqb a 0))
joined_zero (b ∷ s) a =
    joined_zero s (bit_or a b) ∙ ap (λ (t : Bool). t && same s (replicate (length s) 0)) (or_zero a b)
    ∙ and_assoc (eqb a 0) (eqb b 0) (same s (replicate (length s) 0))

pub zero_blank : (key : List ℕ) → length key ≡ key_size → eqb (fold bit_or 0 key) 0 ≡ is_blank key
unfolding is_blank blank_key
zero_blank key e = joined_zero key 0 ∙ ap (λ (n : ℕ). same key (replicate n 0)) e

pub blank : Blank
blank key = (λ h. blank_zeros key (is_blank_lem key h), λ z. blank_is key (zeros_blank key z.0 z.1))
