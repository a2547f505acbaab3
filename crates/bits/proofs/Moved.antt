-- Words moved up and down by whole places, as strings; to move keeps sums.
-- Assumes nothing.
use mathlib.Core.Path.{◌≡◌, refl, sym, ap, ap₂, ◌∙◌}
use mathlib.Core.Bool.{Bool, false}
use mathlib.Core.List.{List, [], ◌∷◌, ◌++◌}
use Prim.Native.Nat.{ℕ, zero, suc, ◌+◌, ◌*◌, ◌/◌, ◌%◌, ◌^◌, ◌<◌}
use native.Mathlib.Nat.{zero-div, zero-mul, zero-add, add-zero, add_comm, div-one, mod-lt, mod-mod}
use native.Mathlib.Numerals.{add-one}
use native.Mathlib.Omega.{arith}
use lib.Bits.{bit_or, or_shifted}
use lib.Pow.{pow_pos, split}
use lib.ListN.{take, drop, length-append, length-replicate, replicate-append-replicate}
use lib.Seq.{take_at, drop_at}
use Rattle.bits.specs.Bit.{◌⊻◌}
use Rattle.bits.specs.Bytes.{lowest, word}
use Rattle.bits.specs.Strings.{◌⊞◌, zeros, shift}
use Rattle.bits.proofs.Sum.{sum_comm, sum_zeros, sum-append, drop-sum}
use Rattle.bits.proofs.Word.{word_agrees, word-append, word-drop, length-word, shl-mod}

pub word-zero : (n : ℕ) → word n 0 ≡ zeros n
unfolding word
word-zero zero = refl
word-zero (suc n) = ap₂ (λ (x : ℕ) (s : List Bool). lowest x ∷ s) (zero-div (2 ^ n)) (word-zero n)

-- A word in two.
pub word_split : (m k x : ℕ) → word (m + k) x ≡ word m (x / 2 ^ k) ++ word k x
word_split m k x =
    ap (word (m + k)) (sym (split x k)) ∙ word-append m k (x / 2 ^ k) (x % 2 ^ k) (mod-lt x (pow_pos k))
    ∙ ap (λ (s : List Bool). word m (x / 2 ^ k) ++ s) (word_agrees k (x % 2 ^ k) x (mod-mod x (2 ^ k)))

-- Two words in one.
pub word-or : (m k x r : ℕ) → r < 2 ^ k → word (m + k) (bit_or (x * 2 ^ k % 2 ^ (m + k)) r) ≡ word (m + k) (x * 2 ^ k + r)
word-or m k x r h =
    ap (word (m + k)) (ap (λ (y : ℕ). bit_or y r) (shl-mod m k x) ∙ or_shifted (x % 2 ^ m) k r h) ∙ word-append m k (x % 2 ^ m) r h
    ∙ ap (λ (s : List Bool). s ++ word k r) (word_agrees m (x % 2 ^ m) x (mod-mod x (2 ^ m))) ∙ sym (word-append m k x r h)

-- A word that has lost its lowest bit takes it again.
pub shift_half : (n x : ℕ) → shift (word (suc n) (x / 2)) (lowest x) ≡ word (suc n) x
unfolding word
shift_half n x =
    ap (λ (y : ℕ). word n (x / 2) ++ (lowest y ∷ [])) (sym (div-one x)) ∙ sym (word_split n 1 x) ∙ ap (λ (k : ℕ). word k x) (add-one n)

-- k places up: k zeros come in behind.
abbrev pub up : ℕ → List Bool → List Bool
up k s = drop k (s ++ zeros k)

-- k places down, of w places: k zeros come in before.
abbrev pub down : (w k : ℕ) → List Bool → List Bool
down w k s = take w (zeros k ++ s)

pub word-up : (w k x : ℕ) → word w (x * 2 ^ k) ≡ up k (word w x)
word-up w k x =
    sym (word-drop k w (x * 2 ^ k))
    ∙ ap₂ (λ (n y : ℕ). drop k (word n y)) (add_comm k w) (sym (add-zero (x * 2 ^ k)))
    ∙ ap (drop k) (word-append w k x 0 (pow_pos k) ∙ ap (λ (s : List Bool). word w x ++ s) (word-zero k))

pub word-down : (w k x : ℕ) → x < 2 ^ w → word w (x / 2 ^ k) ≡ down w k (word w x)
word-down w k x h =
    sym (take_at (word w (x / 2 ^ k)) (word k x) w (length-word w (x / 2 ^ k)))
    ∙ ap (take w) (sym (word_split w k x) ∙ ap₂ word (add_comm w k) (sym (zero-add x) ∙ ap (λ (y : ℕ). y + x) (sym (zero-mul (2 ^ w))))
    ∙ word-append k w 0 x h ∙ ap (λ (s : List Bool). s ++ word w x) (word-zero k))

zeros_swap : (j k : ℕ) → zeros j ++ zeros k ≡ zeros k ++ zeros j
zeros_swap j k = replicate-append-replicate j k false ∙ ap zeros (add_comm j k) ∙ sym (replicate-append-replicate k j false)

pub up-zeros : (k w : ℕ) → up k (zeros w) ≡ zeros w
up-zeros k w = ap (drop k) (zeros_swap w k) ∙ drop_at (zeros k) (zeros w) k (length-replicate k false)

pub down-zeros : (w k : ℕ) → down w k (zeros w) ≡ zeros w
down-zeros w k = ap (take w) (zeros_swap k w) ∙ take_at (zeros w) (zeros k) w (length-replicate w false)

padded_zeros : (k : ℕ) (s : List Bool) → (s ++ zeros k) ⊞ zeros k ≡ s ++ zeros k
padded_zeros k s = sum_zeros (s ++ zeros k) k (omega (arith, length-append s (zeros k), length-replicate k false))

-- Zeros behind both strings of a sum stand behind it.
sum_padded : (k : ℕ) (s t : List Bool) → (s ++ zeros k) ⊞ (t ++ zeros k) ≡ (s ⊞ t) ++ zeros k
unfolding ◌⊞◌
sum_padded k [] t = sum_comm (zeros k) (t ++ zeros k) ∙ padded_zeros k t
sum_padded k (a ∷ s) [] = padded_zeros k (a ∷ s)
sum_padded k (a ∷ s) (b ∷ t) = ap (λ (r : List Bool). (a ⊻ b) ∷ r) (sum_padded k s t)

take-sum : (k : ℕ) (s t : List Bool) → take k (s ⊞ t) ≡ take k s ⊞ take k t
unfolding ◌⊞◌
take-sum zero s t = refl
take-sum (suc k) [] t = refl
take-sum (suc k) (a ∷ s) [] = refl
take-sum (suc k) (a ∷ s) (b ∷ t) = ap (λ (r : List Bool). (a ⊻ b) ∷ r) (take-sum k s t)

pub up-sum : (k : ℕ) (s t : List Bool) → up k (s ⊞ t) ≡ up k s ⊞ up k t
up-sum k s t = ap (drop k) (sym (sum_padded k s t)) ∙ drop-sum k (s ++ zeros k) (t ++ zeros k)

pub down-sum : (w k : ℕ) (s t : List Bool) → down w k (s ⊞ t) ≡ down w k s ⊞ down w k t
down-sum w k s t =
    ap (take w)
    (ap (λ (z : List Bool). z ++ (s ⊞ t)) (sym (sum_zeros (zeros k) k (omega (arith, length-replicate k false)))) ∙ sym (sum-append (zeros k) (zeros k) s t refl))
    ∙ take-sum w (zeros k ++ s) (zeros k ++ t)
