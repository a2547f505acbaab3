-- The lowest bit keeps sums and products, as each bit does, and tells the remainder by 2.
-- Assumes nothing.
use mathlib.Core.Path.{◌≡◌, refl, ap, ap₂, ◌∙◌}
use mathlib.Core.Bool.{Bool, true, false, ◌&&◌}
use mathlib.Core.List.{◌∷◌}
use Prim.Native.Nat.{ℕ, zero, suc, ◌/◌, ◌%◌, ◌^◌, ◌<◌}
use native.Mathlib.Nat.{mod-lt}
use native.Mathlib.Omega.{arith}
use lib.Bits.{bit_xor, bit_and, xor_mod, and_mod, xor_shr, and_shr}
use lib.Pow.{pow_pos}
use Rattle.bits.specs.Bit.{◌⊻◌, digit}
use Rattle.bits.specs.Bytes.{is_one, lowest, bit, word}
use Rattle.bits.specs.Strings.{◌⊞◌}
use Rattle.bits.proofs.Word.{digit-is_one}

-- An operation on the digits 0 and 1 that is one on bits.
module _ (f : ℕ → ℕ → ℕ) (g : Bool → Bool → Bool)
    (table : (is_one (f 0 0) ≡ g false false) × (is_one (f 0 1) ≡ g false true) × (is_one (f 1 0) ≡ g true false) × (is_one (f 1 1) ≡ g true true)) where
  on_digits : (a b : ℕ) → a < 2 → b < 2 → is_one (f a b) ≡ g (is_one a) (is_one b)
  on_digits zero zero ha hb = table.0
  on_digits zero (suc zero) ha hb = table.1
  on_digits (suc zero) zero ha hb = table.2
  on_digits (suc zero) (suc zero) ha hb = table.3
  on_digits (suc (suc a)) b ha hb = absurd (omega arith)
  on_digits zero (suc (suc b)) ha hb = absurd (omega arith)
  on_digits (suc zero) (suc (suc b)) ha hb = absurd (omega arith)

  on_lowest : (a b : ℕ) → is_one (f (a % 2) (b % 2)) ≡ g (lowest a) (lowest b)
  on_lowest a b = on_digits (a % 2) (b % 2) (mod-lt a (pow_pos 1)) (mod-lt b (pow_pos 1))

pub lowest-xor : (a b : ℕ) → lowest (bit_xor a b) ≡ lowest a ⊻ lowest b
lowest-xor a b = ap is_one (xor_mod a b 1) ∙ on_lowest bit_xor ◌⊻◌ (refl, refl, refl, refl) a b

pub lowest-and : (a b : ℕ) → lowest (bit_and a b) ≡ (lowest a && lowest b)
lowest-and a b = ap is_one (and_mod a b 1) ∙ on_lowest bit_and ◌&&◌ (refl, refl, refl, refl) a b

pub digit-lowest : (x : ℕ) → digit (lowest x) ≡ x % 2
digit-lowest x = digit-is_one (x % 2) (mod-lt x (pow_pos 1))

pub lowest-digit : (b : Bool) → lowest (digit b) ≡ b
lowest-digit true = refl
lowest-digit false = refl

-- What a test of the remainder by 2 tells of the lowest bit.
pub lowest_one : (x : ℕ) → x % 2 ≡ 1 → lowest x ≡ true
lowest_one x e = ap is_one e

pub lowest_other : (x : ℕ) → (x % 2 ≡ 1 → ⊥) → lowest x ≡ false
lowest_other x h = ap is_one (zero_left (x % 2) (mod-lt x (pow_pos 1)) h)
  where
    zero_left : (d : ℕ) → d < 2 → (d ≡ 1 → ⊥) → d ≡ 0
    zero_left d l n = omega arith

pub bit-xor : (k a b : ℕ) → bit k (bit_xor a b) ≡ bit k a ⊻ bit k b
bit-xor k a b = ap lowest (xor_shr a b k) ∙ lowest-xor (a / 2 ^ k) (b / 2 ^ k)

pub bit-and : (k a b : ℕ) → bit k (bit_and a b) ≡ (bit k a && bit k b)
bit-and k a b = ap lowest (and_shr a b k) ∙ lowest-and (a / 2 ^ k) (b / 2 ^ k)

pub word-xor : (n a b : ℕ) → word n (bit_xor a b) ≡ word n a ⊞ word n b
unfolding word ◌⊞◌
word-xor zero a b = refl
word-xor (suc n) a b = ap₂ ◌∷◌ (bit-xor n a b) (word-xor n a b)
