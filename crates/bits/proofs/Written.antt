-- Words written into a byte string, as the string before, the bytes, and the string behind.
-- Assumes nothing.
use mathlib.Core.Path.{◌≡◌, ap, ap₂, ◌∙◌}
use mathlib.Core.List.{List, ◌++◌, append-nil}
use Prim.Native.Nat.{ℕ, ◌+◌, ◌-◌, ◌*◌, ◌≤◌}
use native.Mathlib.Nat.{le_of_eq, add-sub_cancel_left}
use native.Mathlib.Omega.{arith}
use lib.ListN.{length, take, drop, length-drop, drop_of_length-le}
use lib.Seq.{length-take-le, take-length}
use Rattle.bits.specs.Bytes.{word, bytes}

-- A word of k bytes written from place i on, and a string behind place i.
pub word-written : (out : List ℕ) (i k w : ℕ) {ys : List ℕ} → i + k ≤ length out → ys ≡ bytes (length (take (i + k - i) (drop i out))) (word (8 * length (take (i + k - i) (drop i out))) w)
    → take i out ++ (ys ++ drop (i + k - i) (drop i out)) ≡ take i out ++ (bytes k (word (8 * k) w) ++ drop k (drop i out))
word-written out i k w h e =
    ap₂ (λ (y : List ℕ) (n : ℕ). take i out ++ (y ++ drop n (drop i out)))
    (e ∙ ap (λ (n : ℕ). bytes n (word (8 * n) w)) (length-take-le (i + k - i) (drop i out) (omega (arith, length-drop i out)) ∙ add-sub_cancel_left i k))
    (add-sub_cancel_left i k)

pub rest-written : (out : List ℕ) (i : ℕ) (ys : List ℕ) → take i out ++ (ys ++ drop (length out - i) (drop i out)) ≡ take i out ++ ys
rest-written out i ys = ap (λ (l : List ℕ). take i out ++ l) (ap (λ (l : List ℕ). ys ++ l) (drop_of_length-le (drop i out) (le_of_eq (length-drop i out))) ∙ append-nil ys)

-- A copy of a string over one of its length is the string.
pub copied : (s lent : List ℕ) {d : List ℕ} → length lent ≡ length s → d ≡ take (length s) s ++ drop (length s) lent → d ≡ s
copied s lent h e = e ∙ ap₂ ◌++◌ (take-length s) (drop_of_length-le lent (le_of_eq h)) ∙ append-nil s
