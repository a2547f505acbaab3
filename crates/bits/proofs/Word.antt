-- `word n x` and `value` undo one another, and one law cuts a word in two.
-- Assumes nothing.
use mathlib.Core.Path.{◌≡◌, refl, sym, ap, ap₂, ◌∙◌}
use mathlib.Core.Bool.{Bool, true, false}
use mathlib.Core.List.{List, [], ◌∷◌, ◌++◌, append_assoc}
use Prim.Native.Nat.{ℕ, zero, suc, ◌+◌, ◌-◌, ◌*◌, ◌/◌, ◌%◌, ◌^◌, ◌<◌}
use native.Mathlib.Nat.{one-mul, mod-eq_of_lt, le_of_suc-le-suc, not-suc-le-zero, zero-add, suc-add, add-zero, add_comm, mul-div_cancel, mul-mod_left, mod-mod, div-one, mod-lt, mod-one, pow-suc, mul-add-mod_self_right}
use native.Mathlib.Omega.{arith}
use native.Mathlib.Numerals.{one-add, add-one}
use lib.Arith.{mod-mul}
use lib.Bits.{bit_or, or_shifted}
use lib.Dec.{lit<}
use lib.Pow.{pow_pos, shl_exact, high, shr-shr, field, mod-pow-add, mod-mod-pow, pow-add}
use lib.ListN.{length, get_or, drop}
use Rattle.bits.specs.Bit.{digit}
use Rattle.bits.specs.Bytes.{is_one, lowest, bit, word, value}
use Rattle.bits.specs.Strings.{shift}

pub length-word : (n x : ℕ) → length (word n x) ≡ n
unfolding word
length-word zero x = refl
length-word (suc n) x = ap suc (length-word n x)

is_one-digit : (b : Bool) → is_one (digit b % 2) ≡ b
is_one-digit true = refl
is_one-digit false = refl

pub digit-is_one : (d : ℕ) → d < 2 → digit (is_one d) ≡ d
digit-is_one zero h = refl
digit-is_one (suc zero) h = refl
digit-is_one (suc (suc d)) h = absurd (omega arith)

pub value_bound : (s : List Bool) → value s < 2 ^ length s
unfolding value
value_bound [] = omega arith
value_bound (true ∷ s) = omega (arith, pow-suc 2 (length s), value_bound s)
value_bound (false ∷ s) = omega (arith, pow-suc 2 (length s), value_bound s)

-- The remainder by 2 ^ (n + 1) is bit n and the remainder by 2 ^ n.
mod-suc-pow : (n x : ℕ) → x % 2 ^ suc n ≡ (x / 2 ^ n % 2) * 2 ^ n + x % 2 ^ n
mod-suc-pow n x = rw (← one-add n) (mod-pow-add x 1 n)

pub value-word : (n x : ℕ) → value (word n x) ≡ x % 2 ^ n
unfolding value word
value-word zero x = sym (mod-one x)
value-word (suc n) x =
    ap₂ ◌+◌ (ap₂ (λ (d k : ℕ). d * 2 ^ k) (digit-is_one (x / 2 ^ n % 2) (mod-lt (x / 2 ^ n) (pow_pos 1))) (length-word n x)) (value-word n x)
    ∙ sym (mod-suc-pow n x)

pub value-word-small : (n x : ℕ) → x < 2 ^ n → value (word n x) ≡ x
value-word-small n x h = value-word n x ∙ mod-eq_of_lt h

-- The n lowest bits are those of the remainder by 2 ^ n.
pub word_agrees : (n x y : ℕ) → x % 2 ^ n ≡ y % 2 ^ n → word n x ≡ word n y
unfolding word
word_agrees zero x y e = refl
word_agrees (suc n) x y e = ap₂ ◌∷◌ (ap is_one (sym (top x) ∙ ap (λ (z : ℕ). z / 2 ^ n) e ∙ top y)) (word_agrees n x y (sym (rest x) ∙ ap (λ (z : ℕ). z % 2 ^ n) e ∙ rest y))
  where
    top : (z : ℕ) → z % 2 ^ suc n / 2 ^ n ≡ z / 2 ^ n % 2
    top z = rw (← one-add n) (field z 1 n)

    rest : (z : ℕ) → z % 2 ^ suc n % 2 ^ n ≡ z % 2 ^ n
    rest z = rw (← one-add n) (mod-mod-pow z 1 n)

pub word_low : (n a r : ℕ) → word n (a * 2 ^ n + r) ≡ word n r
word_low n a r = word_agrees n (a * 2 ^ n + r) r (mul-add-mod_self_right a (2 ^ n) r)

pub word_value : (s : List Bool) → word (length s) (value s) ≡ s
unfolding value word
word_value [] = refl
word_value (b ∷ s) =
    ap₂ ◌∷◌ (ap (λ (d : ℕ). is_one (d % 2)) (high (digit b) (length s) (value_bound s)) ∙ is_one-digit b)
    (word_low (length s) (digit b) (value s) ∙ word_value s)

-- A word of m + k bits is a word of m bits and one of k.
pub word-append : (m k x r : ℕ) → r < 2 ^ k → word (m + k) (x * 2 ^ k + r) ≡ word m x ++ word k r
unfolding word
word-append zero k x r h = ap (λ (n : ℕ). word n (x * 2 ^ k + r)) (zero-add k) ∙ word_low k x r
word-append (suc m) k x r h = ap (λ (n : ℕ). word n (x * 2 ^ k + r)) (suc-add m k) ∙ ap₂ ◌∷◌ (ap lowest top) (word-append m k x r h)
  where
    top : (x * 2 ^ k + r) / 2 ^ (m + k) ≡ x / 2 ^ m
    top = ap (λ (n : ℕ). (x * 2 ^ k + r) / 2 ^ n) (add_comm m k) ∙ sym (shr-shr (x * 2 ^ k + r) k m) ∙ ap (λ (z : ℕ). z / 2 ^ m) (high x k h)

-- Bits that are moved up out of j + k bits are lost.
pub shl-mod : (j k x : ℕ) → x * 2 ^ k % 2 ^ (j + k) ≡ x % 2 ^ j * 2 ^ k
shl-mod j k x =
    ap (λ (m : ℕ). x * 2 ^ k % m) (pow-add 2 j k) ∙ mod-mul (x * 2 ^ k) (pow_pos j) (pow_pos k)
    ∙ ap₂ (λ (a b : ℕ). a % 2 ^ j * 2 ^ k + b) (mul-div_cancel x (pow_pos k)) (mul-mod_left x (2 ^ k)) ∙ add-zero (x % 2 ^ j * 2 ^ k)

-- One moved up by w places in a word of 64 bits.
pub one_up : (w : ℕ) → w < 64 → 1 * 2 ^ w % 2 ^ 64 ≡ 2 ^ w
one_up w h = shl_exact 1 w 64 (lit< tt) (omega arith) ∙ one-mul (2 ^ w)

-- A word that moved up by one bit, with a new lowest bit.
pub word-shift : (n x new : ℕ) → word (suc n) (bit_or (x * 2 % 2 ^ suc n) (new % 2)) ≡ shift (word (suc n) x) (lowest new)
unfolding word
word-shift n x new =
    ap (word (suc n)) (ap (λ (y : ℕ). bit_or y (new % 2)) (ap (λ (k : ℕ). x * 2 % 2 ^ k) (sym (add-one n)) ∙ shl-mod n 1 x) ∙ or_shifted (x % 2 ^ n) 1 (new % 2) small)
    ∙ ap (λ (k : ℕ). word k (x % 2 ^ n * 2 + new % 2)) (sym (add-one n))
    ∙ word-append n 1 (x % 2 ^ n) (new % 2) small
    ∙ ap₂ (λ (s : List Bool) (d : ℕ). s ++ (is_one d ∷ [])) (word_agrees n (x % 2 ^ n) x (mod-mod x (2 ^ n))) (ap (λ (d : ℕ). d % 2) (div-one (new % 2)) ∙ mod-mod new 2)
  where
    small : new % 2 < 2
    small = mod-lt new (pow_pos 1)

-- A register of two words moves as one.
pub shift-words : (n w0 w1 : ℕ) (new : Bool) → shift (word (suc n) w0) (lowest (w1 / 2 ^ n)) ++ shift (word (suc n) w1) new ≡ shift (word (suc n) w0 ++ word (suc n) w1) new
unfolding word
shift-words n w0 w1 new =
    append_assoc (word n w0) (bit n w1 ∷ []) (word n w1 ++ (new ∷ []))
    ∙ sym (append_assoc (word n w0) (bit n w1 ∷ word n w1) (new ∷ []))

-- Place k of a word.
pub get_or-word : (n x k : ℕ) → k < n → get_or (word n x) k false ≡ bit (n - suc k) x
unfolding word
get_or-word zero x k h = absurd (not-suc-le-zero h)
get_or-word (suc n) x zero h = ap (λ (m : ℕ). bit m x) (omega arith)
get_or-word (suc n) x (suc k) h = get_or-word n x k (le_of_suc-le-suc h) ∙ ap (λ (m : ℕ). bit m x) (omega arith)

-- The last places of a word are a shorter word.
pub word-drop : (m n x : ℕ) → drop m (word (m + n) x) ≡ word n x
unfolding word
word-drop zero n x = ap (λ (k : ℕ). word k x) (zero-add n)
word-drop (suc m) n x = ap (λ (k : ℕ). drop (suc m) (word k x)) (suc-add m n) ∙ word-drop m n x
