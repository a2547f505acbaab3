-- The number that bytes spell, and the bytes that spell a word, one byte after the other.
-- Assumes nothing.
use mathlib.Core.Path.{◌≡◌, sym, ap, ap₂, ◌∙◌}
use mathlib.Core.Bool.{Bool}
use mathlib.Core.List.{List, [], ◌∷◌, ◌++◌}
use Prim.Native.Nat.{ℕ, zero, suc, ◌+◌, ◌-◌, ◌*◌, ◌/◌, ◌%◌, ◌^◌, ◌<◌, ◌≤◌}
use native.Mathlib.Nat.{div-one, sub_self, le_of_eq, not-suc-le-zero, le_of_suc-le-suc, mul-suc, add_comm, suc-sub-suc, sub-zero, zero-mul, zero-add, add_assoc, add-mul, mul_assoc}
use native.Mathlib.Numerals.{sub-one}
use native.Mathlib.Omega.{arith}
use lib.Bits.{bit_or, or_shifted}
use lib.Pow.{pow-add, high, low, mod-pow-add, mod-mod-pow, shr-shr}
use lib.ListN.{length, get_or, take, drop, set, length-append, length-set}
use lib.Seq.{take_at, drop_at, drop-length, drop-cons, drop-set-lt, get_or-set_same}
use Rattle.std.specs.List.{fold}
use Rattle.bits.specs.Bit.{digit}
use Rattle.bits.specs.Bytes.{word, value, Bytes, bits, bytes}
use Rattle.bits.proofs.Moved.{word_split}
use Rattle.bits.proofs.Packing.{length-bits}
use Rattle.bits.proofs.Word.{value-word, value-word-small, word_value, word_agrees, length-word, shl-mod}

pub value-append : (s t : List Bool) → value (s ++ t) ≡ value s * 2 ^ length t + value t
unfolding value
value-append [] t = sym (ap (λ (x : ℕ). x + value t) (zero-mul (2 ^ length t)) ∙ zero-add (value t))
value-append (b ∷ s) t =
    ap₂ (λ (p q : ℕ). digit b * p + q) (ap (λ (n : ℕ). 2 ^ n) (length-append s t) ∙ pow-add 2 (length s) (length t)) (value-append s t)
    ∙ ap (λ (x : ℕ). x + (value s * 2 ^ length t + value t)) (sym (mul_assoc (digit b) (2 ^ length s) (2 ^ length t)))
    ∙ sym (add_assoc (digit b * 2 ^ length s * 2 ^ length t) (value s * 2 ^ length t) (value t))
    ∙ ap (λ (x : ℕ). x + value t) (sym (add-mul (digit b * 2 ^ length s) (value s) (2 ^ length t)))

-- A byte moved into a word of 64 bits.
byte_in : (n b : ℕ) → b < 2 ^ 8 → bit_or (n % 2 ^ 64 * 2 ^ 8 % 2 ^ 64) b ≡ (n * 2 ^ 8 + b) % 2 ^ 64
byte_in n b h =
    ap (λ (x : ℕ). bit_or x b) (shl-mod 56 8 (n % 2 ^ 64) ∙ ap (λ (x : ℕ). x * 2 ^ 8) (mod-mod-pow n 8 56))
    ∙ or_shifted (n % 2 ^ 56) 8 b h
    ∙ sym (mod-pow-add (n * 2 ^ 8 + b) 56 8 ∙ ap₂ (λ (x y : ℕ). x % 2 ^ 56 * 2 ^ 8 + y) (high n 8 h) (low n 8 h))

-- One byte before others.
value_byte : (b : ℕ) (s : List ℕ) → b < 256 → value (bits (b ∷ s)) ≡ b * 2 ^ (8 * length s) + value (bits s)
unfolding bits
value_byte b s h =
    value-append (word 8 b) (bits s)
    ∙ ap₂ (λ (v k : ℕ). v * 2 ^ k + value (bits s)) (value-word-small 8 b h) (length-bits s)

-- The step of a fold that moves bytes into a word of 64 bits.
abbrev pub moved_in : (n b : ℕ) → ℕ
moved_in n b = bit_or (n * 2 ^ 8 % 2 ^ 64) b

-- Bytes moved in behind the lowest bits of n.
all_behind : (s : List ℕ) → Bytes s → (n : ℕ) → fold moved_in (n % 2 ^ 64) s ≡ (n * 2 ^ (8 * length s) + value (bits s)) % 2 ^ 64
unfolding value bits
all_behind [] h n = omega arith
all_behind (b ∷ s) h n =
    ap (λ (m : ℕ). fold moved_in m s) (byte_in n b (h 0))
    ∙ all_behind s (λ i. h (suc i)) (n * 2 ^ 8 + b)
    ∙ ap (λ (m : ℕ). m % 2 ^ 64) same
  where
    same : (n * 2 ^ 8 + b) * 2 ^ (8 * length s) + value (bits s) ≡ n * 2 ^ (8 * suc (length s)) + value (bits (b ∷ s))
    same = rw (value_byte b s (h 0), mul-suc 8 (length s), pow-add 2 (8 * length s) 8) (omega arith)

pub all_moved_in : (s : List ℕ) → Bytes s → fold moved_in 0 s ≡ value (bits s) % 2 ^ 64
all_moved_in s h = all_behind s h 0 ∙ ap (λ (m : ℕ). m % 2 ^ 64) (omega arith)

-- Up to eight bytes as a word.
pub spelled : (s : List ℕ) (n : ℕ) → length s ≤ 8 → n ≡ value (bits s) % 2 ^ 64 → word (8 * length s) n ≡ bits s
spelled s n h e =
    let whole : 64 ≡ 64 - 8 * length s + 8 * length s = omega arith in
    ap (word (8 * length s)) (e ∙ ap (λ (k : ℕ). value (bits s) % 2 ^ k) whole)
    ∙ word_agrees (8 * length s) (value (bits s) % 2 ^ (64 - 8 * length s + 8 * length s)) (value (bits s)) (mod-mod-pow (value (bits s)) (64 - 8 * length s) (8 * length s))
    ∙ ap (λ (k : ℕ). word k (value (bits s))) (sym (length-bits s)) ∙ word_value (bits s)

pub spelled_eight : (s : List ℕ) (n : ℕ) → length s ≡ 8 → n ≡ value (bits s) % 2 ^ 64 → word 64 n ≡ bits s
spelled_eight s n len e = ap (λ (k : ℕ). word (8 * k) n) (sym len) ∙ spelled s n (le_of_eq len) e

-- The bytes of a word, high byte first.
pub bytes-word-cons : (n w : ℕ) → bytes (suc n) (word (8 * suc n) w) ≡ (w / 2 ^ (8 * n) % 256) ∷ bytes n (word (8 * n) w)
unfolding bytes
bytes-word-cons n w =
    ap (λ (r : List Bool). value (take 8 r) ∷ bytes n (drop 8 r)) split_word
    ∙ ap₂ ◌∷◌ (ap value (take_at top (word (8 * n) w) 8 eight) ∙ value-word 8 (w / 2 ^ (8 * n))) (ap (bytes n) (drop_at top (word (8 * n) w) 8 eight))
  where
    top : List Bool
    top = word 8 (w / 2 ^ (8 * n))

    eight : length top ≡ 8
    eight = length-word 8 (w / 2 ^ (8 * n))

    split_word : word (8 * suc n) w ≡ top ++ word (8 * n) w
    split_word = ap (λ (k : ℕ). word k w) (mul-suc 8 n ∙ add_comm (8 * n) 8) ∙ word_split 8 (8 * n) w

pub bytes_word : (n w i : ℕ) → i < n → get_or (bytes n (word (8 * n) w)) i 0 ≡ w / 2 ^ (8 * (n - suc i)) % 256
bytes_word zero w i h = absurd (not-suc-le-zero h)
bytes_word (suc n) w zero h =
    ap (λ (l : List ℕ). get_or l 0 0) (bytes-word-cons n w) ∙ ap (λ (k : ℕ). w / 2 ^ (8 * k) % 256) (sym (suc-sub-suc n 0 ∙ sub-zero n))
bytes_word (suc n) w (suc i) h =
    ap (λ (l : List ℕ). get_or l (suc i) 0) (bytes-word-cons n w) ∙ bytes_word n w i (le_of_suc-le-suc h)
    ∙ ap (λ (k : ℕ). w / 2 ^ (8 * k) % 256) (sym (suc-sub-suc n (suc i)))

-- From place i on, a string of n bytes has the lowest bytes of a word, and the rest of the word is yet to be spelled.
abbrev pub Spelling : (w n : ℕ) → List ℕ → (rest i : ℕ) → Type 0
Spelling w n out rest i = (rest ≡ w / 2 ^ (8 * (n - i))) × (drop i out ≡ bytes (n - i) (word (8 * (n - i)) w))

pub spelling_none : (w : ℕ) (out : List ℕ) → Spelling w (length out) out w (length out)
unfolding bytes
spelling_none w out = rw (sub_self (length out)) (sym (div-one w), drop-length out)

pub spelling_turn : (w n : ℕ) (out : List ℕ) (rest i : ℕ) → length out ≡ n → i ≤ n → 0 < i → Spelling w n out rest i → Spelling w n (set out (i - 1) (rest % 256)) (rest / 2 ^ 8) (i - 1)
spelling_turn w n out rest zero len le pos h = absurd (not-suc-le-zero pos)
spelling_turn w n out rest (suc j) len le pos (up, done) =
    let more : n - j ≡ suc (n - suc j) = omega arith in
    let inside : j < length out = omega arith in
    rw (sub-one (suc j), more) (
      ap (λ (r : ℕ). r / 2 ^ 8) up ∙ shr-shr w (8 * (n - suc j)) 8 ∙ ap (λ (k : ℕ). w / 2 ^ k) (sym (mul-suc 8 (n - suc j))),
      drop-cons (set out j (rest % 256)) j 0 (rw length-set inside)
          ∙ ap₂ ◌∷◌ (get_or-set_same out j (rest % 256) 0 inside ∙ ap (λ (r : ℕ). r % 256) up) (drop-set-lt (suc j) out j (rest % 256) (omega arith) ∙ done)
          ∙ sym (bytes-word-cons (n - suc j) w),
    )
