-- Byte strings and their bits: `bits` and `bytes` undo one another.
-- Assumes nothing.
use mathlib.Core.Path.{◌≡◌, refl, sym, ap, ap₂, ◌∙◌}
use mathlib.Core.Bool.{Bool, true, false≢true, and-eq-true_iff}
use mathlib.Core.List.{List, [], ◌∷◌, ◌++◌, append_assoc}
use Prim.Native.Nat.{ℕ, zero, suc, ◌+◌, ◌*◌}
use native.Mathlib.Nat.{zero-add, suc-add, lt_of_lt_of_le}
use native.Mathlib.Omega.{arith}
use borrow.Author.Tests.{eqb-true, eq-eqb}
use lib.Dec.{lit<, eqb}
use lib.Pow.{pow_mono}
use lib.ListN.{length, take, drop, length-append, length-take, length-drop, take-append-drop}
use lib.Seq.{take_at, drop_at, take-append-le, drop-append-le, length-take-le}
use Rattle.bits.specs.Bytes.{word, value, Bytes, bits, bytes, same}
use Rattle.bits.proofs.Word.{length-word, value_bound, value-word-small, word_value}

pub bits-append : (s t : List ℕ) → bits (s ++ t) ≡ bits s ++ bits t
unfolding bits
bits-append [] t = refl
bits-append (b ∷ s) t = ap (λ (r : List Bool). word 8 b ++ r) (bits-append s t) ∙ sym (append_assoc (word 8 b) (bits s) (bits t))

pub length-bits : (s : List ℕ) → length (bits s) ≡ 8 * length s
unfolding bits
length-bits [] = refl
length-bits (b ∷ s) = omega (arith, length-append (word 8 b) (bits s), length-word 8 b, length-bits s)

-- Byte strings of one length have as many bits.
pub as_many_bits : (s t : List ℕ) → length s ≡ length t → length (bits s) ≡ length (bits t)
as_many_bits s t e = length-bits s ∙ ap (λ (n : ℕ). 8 * n) e ∙ sym (length-bits t)

pub length-bytes : (n : ℕ) (s : List Bool) → length (bytes n s) ≡ n
unfolding bytes
length-bytes zero s = refl
length-bytes (suc n) s = ap suc (length-bytes n _)

pub bytes_bits : (s : List ℕ) → Bytes s → bytes (length s) (bits s) ≡ s
unfolding bits bytes
bytes_bits [] h = refl
bytes_bits (b ∷ s) h =
    ap₂ ◌∷◌
    (ap value (take_at (word 8 b) (bits s) 8 (length-word 8 b)) ∙ value-word-small 8 b (h 0))
    (ap (bytes (length s)) (drop_at (word 8 b) (bits s) 8 (length-word 8 b)) ∙ bytes_bits s (λ i. h (suc i)))

pub bits-bytes : (n : ℕ) (s : List Bool) → length s ≡ 8 * n → bits (bytes n s) ≡ s
unfolding bits bytes
bits-bytes zero [] e = refl
bits-bytes zero (b ∷ s) e = absurd (omega arith)
bits-bytes (suc n) s e =
    ap₂ ◌++◌ (ap (λ (k : ℕ). word k (value (take 8 s))) (sym eight) ∙ word_value (take 8 s))
    (bits-bytes n (drop 8 s) (omega (arith, length-drop 8 s)))
    ∙ take-append-drop 8 s
  where
    eight : length (take 8 s) ≡ 8
    eight = length-take-le 8 s (omega arith)

pub bytes-append : (m n : ℕ) (s t : List Bool) → length s ≡ 8 * m → bytes (m + n) (s ++ t) ≡ bytes m s ++ bytes n t
unfolding bytes
bytes-append zero n [] t e = ap (λ (k : ℕ). bytes k t) (zero-add n)
bytes-append zero n (b ∷ s) t e = absurd (omega arith)
bytes-append (suc m) n s t e =
    ap (λ (k : ℕ). bytes k (s ++ t)) (suc-add m n)
    ∙ ap₂ (λ (p q : List Bool). value p ∷ bytes (m + n) q) (take-append-le 8 s t (omega arith)) (drop-append-le 8 s t (omega arith))
    ∙ ap (λ (r : List ℕ). value (take 8 s) ∷ r) (bytes-append m n (drop 8 s) t (omega (arith, length-drop 8 s)))

pub bytes_are_bytes : (n : ℕ) (s : List Bool) → Bytes (bytes n s)
unfolding bytes
bytes_are_bytes zero s i = lit< tt
bytes_are_bytes (suc n) s zero = lt_of_lt_of_le (value_bound (take 8 s)) (pow_mono {j = 8} (omega (arith, length-take 8 s)))
bytes_are_bytes (suc n) s (suc i) = bytes_are_bytes n (drop 8 s) i

-- The same bits are the same bytes.
pub bits_injective : (s t : List ℕ) → Bytes s → Bytes t → bits s ≡ bits t → s ≡ t
bits_injective s t hs ht e =
    sym (bytes_bits s hs) ∙ ap₂ bytes same_length e ∙ bytes_bits t ht
  where
    same_length : length s ≡ length t
    same_length = omega (arith, length-bits s, length-bits t, ap length e)

-- The parts of a byte string are byte strings, and so is what is joined of them.
pub Bytes-take : (n : ℕ) (s : List ℕ) → Bytes s → Bytes (take n s)
Bytes-take zero s h i = lit< tt
Bytes-take (suc n) [] h i = lit< tt
Bytes-take (suc n) (b ∷ s) h zero = h zero
Bytes-take (suc n) (b ∷ s) h (suc i) = Bytes-take n s (λ j. h (suc j)) i

pub Bytes-drop : (n : ℕ) (s : List ℕ) → Bytes s → Bytes (drop n s)
Bytes-drop zero s h = h
Bytes-drop (suc n) [] h = h
Bytes-drop (suc n) (b ∷ s) h = Bytes-drop n s (λ j. h (suc j))

pub Bytes-append : (s t : List ℕ) → Bytes s → Bytes t → Bytes (s ++ t)
Bytes-append [] t hs ht i = ht i
Bytes-append (b ∷ s) t hs ht zero = hs zero
Bytes-append (b ∷ s) t hs ht (suc i) = Bytes-append s t (λ j. hs (suc j)) ht i

pub same_equal : (s t : List ℕ) → same s t ≡ true → s ≡ t
unfolding same
same_equal [] [] e = refl
same_equal [] (b ∷ t) e = absurd (false≢true e)
same_equal (a ∷ s) [] e = absurd (false≢true e)
same_equal (a ∷ s) (b ∷ t) e = ap₂ ◌∷◌ (eqb-true a b ((and-eq-true_iff (eqb a b) (same s t)).0 e).0) (same_equal s t ((and-eq-true_iff (eqb a b) (same s t)).0 e).1)

pub equal_same : (s : List ℕ) → same s s ≡ true
unfolding same
equal_same [] = refl
equal_same (a ∷ s) = (and-eq-true_iff (eqb a a) (same s s)).1 (eq-eqb a a refl, equal_same s)
