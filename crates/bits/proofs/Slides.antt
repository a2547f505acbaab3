-- Words that follow one another, from a place on.
-- Assumes nothing.
use mathlib.Core.Path.{◌≡◌, refl, sym, ap, ap₂, ◌∙◌, subst}
use mathlib.Core.Bool.{Bool, false}
use mathlib.Core.List.{List, [], ◌∷◌, ◌++◌, foldl, append_assoc}
use Prim.Native.Nat.{ℕ, zero, suc, ◌+◌, ◌-◌, ◌*◌, ◌/◌, ◌%◌, ◌^◌, ◌<◌, ◌≤◌}
use native.Mathlib.Nat.{add-zero, mod-mod}
use native.Mathlib.Omega.{arith}
use lib.Bits.{bit_or}
use lib.ListN.{length, length-replicate, take, drop, take-append-drop}
use lib.Pow.{pow_pos, shr-shr, shr_lt}
use lib.Seq.{drop-append-le, take-append-le, length-take-le, take_at, drop_at, get_or-drop}
use Rattle.std.proofs.lemmas.List.{take-replicate}
use Rattle.bits.specs.Bytes.{word}
use Rattle.bits.specs.Strings.{shift, zeros, places}
use Rattle.bits.proofs.Moved.{word-zero, word_split, word-or}
use Rattle.bits.proofs.Shift.{shift-all}
use Rattle.bits.proofs.Word.{length-word, word_agrees, word-append, word-drop}

-- The first places of a word are the word above its last.
pub word-take : (m k x : ℕ) → take m (word (m + k) x) ≡ word m (x / 2 ^ k)
word-take m k x = ap (take m) (word_split m k x) ∙ take_at (word m (x / 2 ^ k)) (word k x) m (length-word m (x / 2 ^ k))

-- Over the number of places left, so that they are m and n of a word.
slide_places : (m n w0 w1 : ℕ) → w1 < 2 ^ (n + m) → word (m + n) (bit_or (w0 * 2 ^ n % 2 ^ (m + n)) (w1 / 2 ^ m)) ≡ drop n (word (n + m) w0) ++ take n (word (n + m) w1)
slide_places m n w0 w1 small =
    word-or m n w0 (w1 / 2 ^ m) (shr_lt n m small)
    ∙ word-append m n w0 (w1 / 2 ^ m) (shr_lt n m small)
    ∙ ap₂ ◌++◌ (sym (word-drop n m w0)) (sym (word-take n m w1))

pub slide_word : (n w0 w1 : ℕ) → n < 64 → w1 < 2 ^ 64 → word 64 (bit_or (w0 * 2 ^ n % 2 ^ 64) (w1 / 2 / 2 ^ (63 - n))) ≡ drop n (word 64 w0) ++ take n (word 64 w1)
slide_word n w0 w1 h small =
    ap₂ (λ (k z : ℕ). word k (bit_or (w0 * 2 ^ n % 2 ^ k) z)) (sym whole) (shr-shr w1 1 (63 - n) ∙ ap (λ (k : ℕ). w1 / 2 ^ k) above)
    ∙ slide_places (64 - n) n w0 w1 (subst (λ (k : ℕ). w1 < 2 ^ k) (sym whole') small)
    ∙ ap (λ (k : ℕ). drop n (word k w0) ++ take n (word k w1)) whole'
  where
    whole : 64 - n + n ≡ 64
    whole = omega arith

    whole' : n + (64 - n) ≡ 64
    whole' = omega arith

    above : 1 + (63 - n) ≡ 64 - n
    above = omega arith

-- Two words and a third behind them, all from place n on.
pub slide_both : (n : ℕ) (a b t : List Bool) → n ≤ length a → n ≤ length b → (drop n a ++ take n b) ++ (drop n b ++ t) ≡ drop n (a ++ b) ++ t
slide_both n a b t ha hb =
    append_assoc (drop n a) (take n b) (drop n b ++ t)
    ∙ ap (λ (s : List Bool). drop n a ++ s) (sym (append_assoc (take n b) (drop n b) t) ∙ ap (λ (s : List Bool). s ++ t) (take-append-drop n b))
    ∙ sym (append_assoc (drop n a) b t) ∙ ap (λ (s : List Bool). s ++ t) (sym (drop-append-le n a b ha))

-- Zeros behind a string are no new places.
pub places-zeros : (s : List Bool) (m i : ℕ) → places (s ++ zeros m) i ≡ places s i
places-zeros [] zero i = refl
places-zeros [] (suc m) zero = refl
places-zeros [] (suc m) (suc i) = places-zeros [] m i
places-zeros (b ∷ s) m zero = refl
places-zeros (b ∷ s) m (suc i) = places-zeros s m i

-- The words that two words and zeros become.
pub left_places : (n w0 w1 v0 v1 i : ℕ) → n < 64 → word 64 v0 ≡ drop n (word 64 w0) ++ take n (word 64 w1) → word 64 v1 ≡ drop n (word 64 w1) ++ take n (word 64 0)
    → places (word 64 v0 ++ word 64 v1) i ≡ places (word 64 w0 ++ word 64 w1) (n + i)
left_places n w0 w1 v0 v1 i h e0 e1 =
    ap (λ (s : List Bool). places s i) (ap₂ ◌++◌ e0 e1 ∙ slide_both n (word 64 w0) (word 64 w1) (take n (word 64 0)) (omega (arith, length-word 64 w0)) (omega (arith, length-word 64 w1)))
    ∙ ap (λ (s : List Bool). places (drop n (word 64 w0 ++ word 64 w1) ++ s) i) (ap (take n) (word-zero 64) ∙ take-replicate n 64 false (omega arith))
    ∙ places-zeros (drop n (word 64 w0 ++ word 64 w1)) n i
    ∙ get_or-drop n (word 64 w0 ++ word 64 w1) i false

-- The first places of a word that 32 bits were moved up in.
pub top_places : (n x : ℕ) → n ≤ 32 → take n (word 64 (x * 2 ^ 32 % 2 ^ 64)) ≡ take n (word 32 x)
top_places n x h =
    ap (take n)
    (word_agrees 64 (x * 2 ^ 32 % 2 ^ 64) (x * 2 ^ 32 + 0) (mod-mod (x * 2 ^ 32) (2 ^ 64) ∙ ap (λ (z : ℕ). z % 2 ^ 64) (sym (add-zero (x * 2 ^ 32))))
    ∙ word-append 32 32 x 0 (pow_pos 32))
    ∙ take-append-le n (word 32 x) (word 32 0) (omega (arith, length-word 32 x))

-- What a shift register takes: n new bits, the first of a word's 32 lowest.
pub shifted_slide : (n : ℕ) (r : List Bool) (x : ℕ) → n ≤ length r → n ≤ 32 → drop n r ++ take n (word 64 (x * 2 ^ 32 % 2 ^ 64)) ≡ foldl shift r (take n (word 32 x))
shifted_slide n r x h k =
    ap (λ (s : List Bool). drop n r ++ s) (top_places n x k)
    ∙ sym (shift-all r new (omega (arith, as_many)) ∙ ap (λ (m : ℕ). drop m (r ++ new)) as_many ∙ drop-append-le n r new h)
  where
    new : List Bool
    new = take n (word 32 x)

    as_many : length new ≡ n
    as_many = length-take-le n (word 32 x) (omega (arith, length-word 32 x))

-- The lowest n bits of a word whose others are zeros.
pub lowest-bits : (n w : ℕ) (s : List Bool) → n ≤ 64 → word 64 w ≡ zeros (64 - n) ++ s → word n w ≡ s
lowest-bits n w s h e =
    let whole : 64 - n + n ≡ 64 = omega arith in
    sym (word-drop (64 - n) n w) ∙ ap (λ (k : ℕ). drop (64 - n) (word k w)) whole ∙ ap (drop (64 - n)) e ∙ drop_at (zeros (64 - n)) s (64 - n) (length-replicate (64 - n) false)
