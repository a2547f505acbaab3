-- Parts of a section in place: a number, an entry, and what stands behind.
-- Assumes nothing.
use Rattle.std.proofs.Common.{◌≡◌, ℕ, suc, ◌+◌, ◌*◌, ◌^◌, ◌<◌, ◌≤◌, List, ◌++◌, length, take, drop, sym, ap, ◌∙◌, append_assoc, lt_of_lt_of_le, add_assoc, mod-eq_of_lt, mul-le-mul_left, arith, length-append, length-drop, take-append-drop, length-take, length-take-le, drop-drop, take_at, take-add, drop_at, pow_mono}
use native.Mathlib.Nat.{min-le_left}
use Rattle.bits.specs.Bytes.{Bytes}
use Rattle.bits.proofs.Packing.{Bytes-take, Bytes-drop}
use Rattle.captures.specs.Layout.{part, number, number_at, head_size, kind_at, size_at, offset_at}
use Rattle.captures.specs.Content.{spelled, entry}
use Rattle.captures.proofs.Spelled.{number_spelled, spelled-number, length-spelled, number_bound}

-- A part, and the part right behind it, or all that stands behind it.
pub part-part : (at m n : ℕ) (s : List ℕ) → part at m s ++ part (at + m) n s ≡ part at (m + n) s
part-part at m n s = rw (take-add, drop-drop)

pub part-drop : (at n : ℕ) (s : List ℕ) → part at n s ++ drop (at + n) s ≡ drop at s
part-drop at n s = rw (← drop-drop n at s) (take-append-drop n (drop at s))

pub length_part : (at n : ℕ) (s : List ℕ) → at + n ≤ length s → length (part at n s) ≡ n
length_part at n s fits = length-take-le n (drop at s) (omega (arith, length-drop at s))

pub length-part-most : (at n : ℕ) (s : List ℕ) → length (part at n s) ≤ n
length-part-most at n s = rw length-take (min-le_left n (length (drop at s)))

pub Bytes-part : (at n : ℕ) (s : List ℕ) → Bytes s → Bytes (part at n s)
Bytes-part at n s h = Bytes-take n (drop at s) (Bytes-drop at s h)

-- A number of n bytes is below 256 ^ n.
pub number_at_bound : (at n : ℕ) (s : List ℕ) → number_at at n s < 2 ^ (8 * n)
number_at_bound at n s = lt_of_lt_of_le (number_bound (part at n s)) (pow_mono (mul-le-mul_left 8 (length-part-most at n s)))

-- A string that stands at a place, and what stands behind it.
pub here : (at n : ℕ) (s p rest : List ℕ) → length p ≡ n → drop at s ≡ p ++ rest → part at n s ≡ p
here at n s p rest long e = ap (take n) e ∙ take_at p rest n long

pub behind : (at n : ℕ) (s p rest : List ℕ) → length p ≡ n → drop at s ≡ p ++ rest → drop (at + n) s ≡ rest
behind at n s p rest long e = sym (drop-drop n at s) ∙ ap (drop n) e ∙ drop_at p rest n long

-- The number that a part spells, and a number that is spelled in place.
pub spelled-part : (at n : ℕ) (s : List ℕ) → Bytes s → at + n ≤ length s → spelled n (number_at at n s) ≡ part at n s
spelled-part at n s h fits = spelled-number n (part at n s) (length_part at n s fits) (Bytes-part at n s h)

pub number_here : (at n x : ℕ) (s rest : List ℕ) → x < 2 ^ (8 * n) → drop at s ≡ spelled n x ++ rest → number_at at n s ≡ x
number_here at n x s rest small e = ap number (here at n s (spelled n x) rest (length-spelled n x) e) ∙ number_spelled n x ∙ mod-eq_of_lt small

pub length-entry : (kind size offset : ℕ) → length (entry kind size offset) ≡ 8
length-entry kind size offset = simp (length-append, length-spelled)

-- The entry that a part spells, and an entry that is spelled in place.
entry-part : (k : ℕ) (s : List ℕ) → Bytes s → head_size k + 8 ≤ length s → entry (kind_at k s) (size_at k s) (offset_at k s) ≡ part (head_size k) 8 s
entry-part k s h fits =
    cc (
      spelled-part (head_size k) 1 s h (omega arith),
      spelled-part (head_size k + 1) 3 s h (omega arith),
      spelled-part (head_size k + 4) 4 s h (omega arith),
      part-part (head_size k) 1 7 s,
      part-part (head_size k + 1) 3 4 s,
      add_assoc (head_size k) 1 3,
    )

-- With the entries behind it.
pub entry-parts : (left k : ℕ) (s : List ℕ) → Bytes s → head_size k + 8 * suc left ≤ length s
    → entry (kind_at k s) (size_at k s) (offset_at k s) ++ part (head_size (suc k)) (8 * left) s ≡ part (head_size k) (8 * suc left) s
entry-parts left k s h fits =
    let next : head_size (suc k) ≡ head_size k + 8 = omega arith in
    let more : 8 * suc left ≡ 8 + 8 * left = omega arith in
    cc (entry-part k s h (omega arith), part-part (head_size k) 8 (8 * left) s)

pub record EntryAt (k kind size offset : ℕ) (s rest : List ℕ) : Type 0 where
  pub kind_is : kind_at k s ≡ kind
  pub size_is : size_at k s ≡ size
  pub offset_is : offset_at k s ≡ offset
  pub next : drop (head_size (suc k)) s ≡ rest

pub entry_here : (k kind size offset : ℕ) (s rest : List ℕ) → kind < 2 ^ 8 → size < 2 ^ 24 → offset < 2 ^ 32
    → drop (head_size k) s ≡ entry kind size offset ++ rest → EntryAt k kind size offset s rest
entry_here k kind size offset s rest p q r e =
    let e₁ : drop (head_size k) s ≡ spelled 1 kind ++ (spelled 3 size ++ (spelled 4 offset ++ rest)) = simp append_assoc at e in
    let e₂ = behind (head_size k) 1 s (spelled 1 kind) _ (length-spelled 1 kind) e₁ in
    let e₃ = behind (head_size k + 1) 3 s (spelled 3 size) _ (length-spelled 3 size) e₂ in
    record {
      kind_is = number_here (head_size k) 1 kind s _ p e₁;
      size_is = number_here (head_size k + 1) 3 size s _ q e₂;
      offset_is = number_here (head_size k + 4) 4 offset s rest r (rw (add_assoc (head_size k) 1 3) at e₃);
      next = let n : head_size (suc k) ≡ head_size k + 8 = omega arith in rw n (behind (head_size k) 8 s (entry kind size offset) rest (length-entry kind size offset) e);
    }
