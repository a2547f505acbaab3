-- The coded length: its three forms, that it decodes back to the length, and that no other form is as short.
-- Assumes nothing.
use mathlib.Core.Path.{◌≡◌, refl, sym, ap, ap₂, ◌∙◌}
use mathlib.Core.Logic.{◌≢◌}
use mathlib.Core.Bool.{Bool, true, false, cond, ◌&&◌, and-eq-true_iff}
use mathlib.Core.List.{List, [], ◌∷◌, ◌++◌}
use mathlib.Core.Option.{none, some, some-injective, none-ne-some}
use Prim.Native.Nat.{ℕ, zero, suc, ◌+◌, ◌-◌, ◌*◌, ◌/◌, ◌%◌, ◌^◌, ◌≤◌, ◌<◌}
use native.Mathlib.Nat.{lt_of_not-le, le_of_eq, div-add-mod'}
use native.Mathlib.Decide.{dec_le}
use native.Mathlib.Omega.{arith}
use borrow.Author.Tests.{le-leb, lt-leb, leb-true, ltb-true}
use lib.Dec.{lit<, leb, ltb}
use lib.ListN.{length, take, drop, length-drop}
use lib.Seq.{take_all}
use Rattle.bits.specs.Bytes.{Bytes, bits, value, word}
use Rattle.bits.proofs.Word.{value-word-small}
use Rattle.bits.proofs.Spelling.{value-append}
use Rattle.lengths.specs.CodedLength.{coded_length, length_in, decoded_length, DistinguishedLengths}

pub coded-short : (n : ℕ) → n ≤ 127 → coded_length n ≡ n ∷ []
unfolding coded_length
coded-short n h = simp (le-leb n 127 h)

pub coded_one : (n : ℕ) → 127 < n → n ≤ 255 → coded_length n ≡ 0x81 ∷ n ∷ []
unfolding coded_length
coded_one n h k = simp (lt-leb n 127 h, le-leb n 255 k)

pub coded_two : (n : ℕ) → 255 < n → coded_length n ≡ 0x82 ∷ n / 256 ∷ n % 256 ∷ []
unfolding coded_length
coded_two n h = simp (lt-leb n 127 (omega arith), lt-leb n 255 h)

-- What holds of each of the three forms holds of the coded length.
by_form : (P : List ℕ → Type 0) (n : ℕ)
    → (n ≤ 127 → P (n ∷ [])) → (127 < n → n ≤ 255 → P (0x81 ∷ n ∷ [])) → (255 < n → P (0x82 ∷ n / 256 ∷ n % 256 ∷ []))
    → P (coded_length n)
by_form P n short one two =
    elim (dec_le n 127) [
      | yes p ↦ rw (coded-short n p) (short p)
      | no p ↦ elim (dec_le n 255) [
        | yes q ↦ rw (coded_one n (lt_of_not-le p) q) (one (lt_of_not-le p) q)
        | no q ↦ rw (coded_two n (lt_of_not-le q)) (two (lt_of_not-le q))
      ]
    ]

-- A coded length has three bytes at most, and a longer length takes no fewer.
pub coded-at-most : (n : ℕ) → length (coded_length n) ≤ 3
coded-at-most n = by_form (λ c. length c ≤ 3) n (λ p. omega arith) (λ p q. omega arith) (λ p. omega arith)

pub coded_grows : (m n : ℕ) → m ≤ n → length (coded_length m) ≤ length (coded_length n)
coded_grows m n h =
    by_form (λ c. length (coded_length m) ≤ length c) n
    (λ p. by_form (λ c. length c ≤ 1) m (λ q. omega arith) (λ q r. omega arith) (λ q. omega arith))
    (λ p r. by_form (λ c. length c ≤ 2) m (λ q. omega arith) (λ q s. omega arith) (λ q. omega arith))
    (λ p. coded-at-most m)

-- The number that bytes spell, by the first of them.
value-cons : (x : ℕ) (s : List ℕ) → x < 256 → value (bits (x ∷ s)) ≡ x * 2 ^ length (bits s) + value (bits s)
unfolding bits
value-cons x s h = value-append (word 8 x) (bits s) ∙ ap (λ (v : ℕ). v * 2 ^ length (bits s) + value (bits s)) (value-word-small 8 x h)

value_one : (x : ℕ) → x < 256 → value (bits (x ∷ [])) ≡ x
unfolding bits value
value_one x h = value-cons x [] h ∙ omega arith

value_two : (x y : ℕ) → x < 256 → y < 256 → value (bits (x ∷ y ∷ [])) ≡ x * 256 + y
unfolding bits word
value_two x y h k = value-cons x (y ∷ []) h ∙ ap (λ (v : ℕ). x * 256 + v) (value_one y k)

coded-bytes : (n : ℕ) → n < 65536 → Bytes (coded_length n)
coded-bytes n h = by_form Bytes n short one two
  where
    short : n ≤ 127 → Bytes (n ∷ [])
    short p zero = omega arith
    short p (suc i) = lit< tt

    one : 127 < n → n ≤ 255 → Bytes (0x81 ∷ n ∷ [])
    one p q zero = lit< tt
    one p q (suc zero) = omega arith
    one p q (suc (suc i)) = lit< tt

    two : 255 < n → Bytes (0x82 ∷ n / 256 ∷ n % 256 ∷ [])
    two p zero = lit< tt
    two p (suc zero) = omega arith
    two p (suc (suc zero)) = omega arith
    two p (suc (suc (suc i))) = lit< tt

decoded-short : (b : ℕ) (s : List ℕ) → b ≤ 127 → decoded_length (b ∷ s) ≡ some (b, s)
unfolding decoded_length
decoded-short b s h = simp (le-leb b 127 h)

decoded_long : (b : ℕ) (s : List ℕ) → 127 < b → decoded_length (b ∷ s) ≡ length_in (b - 0x80) s
unfolding decoded_length
decoded_long b s h = simp (lt-leb b 127 h)

decoded-coded : (n : ℕ) (behind : List ℕ) → n < 65536 → decoded_length (coded_length n ++ behind) ≡ some (n, behind)
unfolding decoded_length length_in
decoded-coded n behind h = by_form (λ (s : List ℕ). decoded_length (s ++ behind) ≡ some (n, behind)) n (decoded-short n behind) one two
  where
    one : 127 < n → n ≤ 255 → decoded_length (0x81 ∷ n ∷ behind) ≡ some (n, behind)
    one p q = simp (le-leb 1 (length (n ∷ behind)) (omega arith), value_one n (omega arith))

    two : 255 < n → decoded_length (0x82 ∷ n / 256 ∷ n % 256 ∷ behind) ≡ some (n, behind)
    two p = simp (le-leb 2 (length (n / 256 ∷ n % 256 ∷ behind)) (omega arith), value_two (n / 256) (n % 256) (omega arith) (omega arith), div-add-mod' n 256)

-- An answer that a test guards, where there is one.
guarded : {A : Type 0} (t : Bool) (x y : A) → cond t (some x) none ≡ some y → (t ≡ true) × (x ≡ y)
guarded true x y e = (refl, some-injective x y e)
guarded false x y e = absurd (none-ne-some y e)

-- A length in k bytes with nothing behind them is the number that all the bytes spell.
whole : (k : ℕ) (s : List ℕ) (n : ℕ) → length_in k s ≡ some (n, []) → (0 < k) × (k ≡ length s) × (value (bits s) ≡ n)
unfolding length_in
whole k s n e =
    (ltb-true 0 k ((and-eq-true_iff _ _).0 tests.0).0, same, ap (λ (l : List ℕ). value (bits l)) (sym (take_all k s (le_of_eq (sym same)))) ∙ ap (λ (p : ℕ × List ℕ). p.0) given.1)
  where
    given : ((ltb 0 k && ltb k 127 && leb k (length s)) ≡ true) × (◌≡◌ {A = ℕ × List ℕ} (value (bits (take k s)), drop k s) (n, []))
    given = guarded _ _ _ e

    tests : ((ltb 0 k && ltb k 127) ≡ true) × (leb k (length s) ≡ true)
    tests = (and-eq-true_iff _ _).0 given.0

    same : k ≡ length s
    same = omega (arith, leb-true k (length s) tests.1, sym (length-drop k s) ∙ ap (λ (p : ℕ × List ℕ). length p.1) given.1)

-- Bytes that spell the length, behind their count, are the coded length or longer.
longer : (n : ℕ) (s : List ℕ) → Bytes s → 0 < length s → value (bits s) ≡ n → ((0x80 + length s) ∷ s) ≢ coded_length n → length (coded_length n) < suc (length s)
longer n s h any e =
    by_form (λ (c : List ℕ). ((0x80 + length s) ∷ s) ≢ c → length c < suc (length s)) n
    (λ p d. omega (arith, any)) (λ p q. one s h any e) (two s h any e)
  where
    one : (s : List ℕ) → Bytes s → 0 < length s → value (bits s) ≡ n → ((0x80 + length s) ∷ s) ≢ (0x81 ∷ n ∷ []) → 2 < suc (length s)
    one [] h any e d = omega (arith, any)
    one (x ∷ []) h any e d = absurd (d (ap (λ (k : ℕ). 0x81 ∷ k ∷ []) (sym (value_one x (h 0)) ∙ e)))
    one (x ∷ y ∷ s) h any e d = omega arith

    two : (s : List ℕ) → Bytes s → 0 < length s → value (bits s) ≡ n → 255 < n → ((0x80 + length s) ∷ s) ≢ (0x82 ∷ n / 256 ∷ n % 256 ∷ []) → 3 < suc (length s)
    two [] h any e p d = omega (arith, any)
    two (x ∷ []) h any e p d = omega (arith, h 0, value_one x (h 0), e)
    two (x ∷ y ∷ []) h any e p d =
        let spelled = sym (value_two x y (h 0) (h 1)) ∙ e in
        absurd (d (ap₂ (λ (a b : ℕ). 0x82 ∷ a ∷ b ∷ []) (omega (arith, h 1, spelled)) (omega (arith, h 1, spelled))))
    two (x ∷ y ∷ z ∷ s) h any e p d = omega arith

shortest : (n : ℕ) (form : List ℕ) → Bytes form → decoded_length form ≡ some (n, []) → form ≢ coded_length n → length (coded_length n) < length form
unfolding decoded_length
shortest n [] h e d = absurd (none-ne-some _ e)
shortest n (b ∷ s) h e d = elim (dec_le b 127) [ yes p ↦ absurd (d (same p)) | no p ↦ more (lt_of_not-le p) ]
  where
    same : b ≤ 127 → b ∷ s ≡ coded_length n
    same p =
        let pair : ◌≡◌ {A = ℕ × List ℕ} (b, s) (n, []) = some-injective _ _ (sym (decoded-short b s p) ∙ e) in
        ap (λ (d : ℕ × List ℕ). d.0 ∷ d.1) pair ∙ sym (coded-short n (omega (arith, p, ap (λ (d : ℕ × List ℕ). d.0) pair)))

    more : 127 < b → length (coded_length n) < suc (length s)
    more p =
        let w = whole (b - 0x80) s n (sym (decoded_long b s p) ∙ e) in
        longer n s (λ i. h (suc i)) (omega (arith, w.0, w.1)) w.2 (λ same. d (ap (λ (k : ℕ). k ∷ s) (omega (arith, p, w.1)) ∙ same))

pub distinguished : DistinguishedLengths
distinguished n h = record { bytes = coded-bytes n h; decodes = λ behind. decoded-coded n behind h; shortest = shortest n }

-- No coded length with something behind it is another with something else behind it.
pub coded_prefix : (m n : ℕ) (x y : List ℕ) → m < 65536 → n < 65536 → coded_length m ++ x ≡ coded_length n ++ y → (m ≡ n) × (x ≡ y)
coded_prefix m n x y k l e = (ap (λ (d : ℕ × List ℕ). d.0) both, ap (λ (d : ℕ × List ℕ). d.1) both)
  where
    both : ◌≡◌ {A = ℕ × List ℕ} (m, x) (n, y)
    both = some-injective _ _ (sym (decoded-coded m x k) ∙ ap decoded_length e ∙ decoded-coded n y l)
