-- A register that moves: its size, its last places, and what is shifted in.
-- Assumes nothing.
use mathlib.Core.Path.{◌≡◌, sym, ap, ◌∙◌}
use mathlib.Core.List.{List, [], ◌∷◌, ◌++◌, foldl, append-nil, append_assoc}
use Prim.Native.Nat.{ℕ, ◌+◌, ◌<◌, ◌≤◌}
use native.Mathlib.Nat.{not-suc-le-zero, add_comm}
use native.Mathlib.Omega.{arith}
use lib.ListN.{length, drop, length-append, length-drop}
use lib.Seq.{drop-drop, drop_at, drop-append-le}
use Rattle.bits.specs.Strings.{shift}

pub length_shift : {A : Type 0} (n : ℕ) (r : List A) (new : A) → 0 < n → length r ≡ n → length (shift r new) ≡ n
length_shift n r new pos e = omega (arith, length-append (drop 1 r) (new ∷ []), length-drop 1 r)

-- The last places of a register move as a register.
pub drop-shift : {A : Type 0} (k : ℕ) (r : List A) (new : A) → k < length r → drop k (shift r new) ≡ shift (drop k r) new
drop-shift k r new h =
    drop-append-le k (drop 1 r) (new ∷ []) (omega (arith, length-drop 1 r))
    ∙ ap (λ (s : List _). s ++ (new ∷ [])) (drop-drop k 1 r ∙ ap (λ (n : ℕ). drop n r) (add_comm 1 k) ∙ sym (drop-drop 1 k r))

-- Bits shifted in one after the other push as many out.
pub shift-all : {A : Type 0} (r s : List A) → length s ≤ length r → foldl shift r s ≡ drop (length s) (r ++ s)
shift-all r [] h = sym (append-nil r)
shift-all [] (x ∷ s) h = absurd (not-suc-le-zero h)
shift-all (a ∷ r) (x ∷ s) h =
    shift-all (r ++ (x ∷ [])) s (omega (arith, length-append r (x ∷ []))) ∙ ap (drop (length s)) (append_assoc r (x ∷ []) s)

-- They stand behind the places that are left.
pub shifted : {A : Type 0} (n : ℕ) (r s : List A) → length s ≡ n → n ≤ length r → foldl shift r s ≡ drop n r ++ s
shifted n r s e h = shift-all r s (omega arith) ∙ ap (λ (k : ℕ). drop k (r ++ s)) e ∙ drop-append-le n r s h

-- They are then the register's last places.
pub shifted_in : {A : Type 0} (k : ℕ) (r s : List A) → length r ≡ k + length s → drop k (foldl shift r s) ≡ s
shifted_in k r s e =
    ap (drop k) (shift-all r s (omega arith)) ∙ drop-drop k (length s) (r ++ s) ∙ drop_at r s (length s + k) (omega arith)
