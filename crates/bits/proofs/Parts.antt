-- Parts of strings of bits: the number that a part spells, and the bits of a part of a byte string.
-- Assumes nothing.
use mathlib.Core.Path.{◌≡◌, refl, sym, ap, ◌∙◌}
use mathlib.Core.Bool.{Bool}
use mathlib.Core.List.{List, [], ◌∷◌, ◌++◌}
use Prim.Native.Nat.{ℕ, zero, suc, ◌+◌, ◌-◌, ◌*◌, ◌/◌, ◌%◌, ◌^◌, ◌≤◌}
use native.Mathlib.Omega.{arith}
use lib.ListN.{length, take, drop, length-drop, take-append-drop}
use lib.Pow.{high, low}
use lib.Seq.{length-take-le, take-nil, drop-nil, take-take, take-add, take-append-add, drop-append-add}
use Rattle.bits.specs.Bytes.{word, value, bits}
use Rattle.bits.proofs.Spelling.{value-append}
use Rattle.bits.proofs.Word.{length-word, value_bound}

high_part : (s t : List Bool) (k : ℕ) → length t ≡ k → value (s ++ t) / 2 ^ k ≡ value s
high_part s t k e =
    ap (λ (n : ℕ). value (s ++ t) / 2 ^ n) (sym e) ∙ ap (λ (x : ℕ). x / 2 ^ length t) (value-append s t) ∙ high (value s) (length t) (value_bound t)

low_part : (s t : List Bool) (k : ℕ) → length t ≡ k → value (s ++ t) % 2 ^ k ≡ value t
low_part s t k e =
    ap (λ (n : ℕ). value (s ++ t) % 2 ^ n) (sym e) ∙ ap (λ (x : ℕ). x % 2 ^ length t) (value-append s t) ∙ low (value s) (length t) (value_bound t)

pub value-part : (s : List Bool) (p w : ℕ) → p + w ≤ length s → value s / 2 ^ (length s - (p + w)) % 2 ^ w ≡ value (take w (drop p s))
value-part s p w h =
    ap (λ (l : List Bool). value l / 2 ^ (length s - (p + w)) % 2 ^ w) (sym (take-append-drop (p + w) s))
    ∙ ap (λ (x : ℕ). x % 2 ^ w) (high_part (take (p + w) s) (drop (p + w) s) (length s - (p + w)) (length-drop (p + w) s))
    ∙ ap (λ (l : List Bool). value l % 2 ^ w) (take-add p w s)
    ∙ low_part (take p s) (take w (drop p s)) w (length-take-le w (drop p s) (omega (arith, length-drop p s)))

eight_more : (k : ℕ) (b : ℕ) → 8 * suc k ≡ length (word 8 b) + 8 * k
eight_more k b = omega (arith, length-word 8 b)

bits-take : (k : ℕ) (m : List ℕ) → bits (take k m) ≡ take (8 * k) (bits m)
unfolding bits
bits-take zero m = refl
bits-take (suc k) [] = sym (take-nil (8 * suc k))
bits-take (suc k) (b ∷ m) =
    ap (λ (s : List Bool). word 8 b ++ s) (bits-take k m) ∙ sym (take-append-add (word 8 b) (bits m) (8 * k))
    ∙ ap (λ (n : ℕ). take n (word 8 b ++ bits m)) (sym (eight_more k b))

bits-drop : (j : ℕ) (m : List ℕ) → bits (drop j m) ≡ drop (8 * j) (bits m)
unfolding bits
bits-drop zero m = refl
bits-drop (suc j) [] = sym (drop-nil (8 * suc j))
bits-drop (suc j) (b ∷ m) =
    bits-drop j m ∙ sym (drop-append-add (word 8 b) (bits m) (8 * j)) ∙ ap (λ (n : ℕ). drop n (word 8 b ++ bits m)) (sym (eight_more j b))

pub bits-part : (j k : ℕ) (m : List ℕ) → bits (take k (drop j m)) ≡ take (8 * k) (drop (8 * j) (bits m))
bits-part j k m = bits-take k (drop j m) ∙ ap (take (8 * k)) (bits-drop j m)

-- A part of the first n places is a part of the whole.
pub part-within : (s : List Bool) (n p w : ℕ) → p + w ≤ n → take w (drop p (take n s)) ≡ take w (drop p s)
part-within s n zero w h = take-take w n s (omega arith)
part-within s zero (suc p) w h = absurd (omega arith)
part-within [] (suc n) (suc p) w h = refl
part-within (b ∷ s) (suc n) (suc p) w h = part-within s n p w (omega arith)
