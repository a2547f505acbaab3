-- The head of a section, one test after the other.
-- Assumes nothing.
use Rattle.std.proofs.Common.{◌≡◌, ℕ, zero, suc, ◌+◌, ◌-◌, ◌<◌, ◌≤◌, true, false, eqb, List, length, add-one, arith, eq-eqb, ne_eqb, eqb-true, le-leb}
use mathlib.Core.Bool.{and-false}
use borrow.Author.Tests.{lt-leb}
use Rattle.captures.specs.Layout.{entry_limit, part, entry_count, head_size, kind_at, size_at, offset_at, entries_sound, head_sound}
use Rattle.captures.proofs.Finds.{Entry, entry-sound}
use Rattle.captures.proofs.Places.{length_part}

-- The head, where the count is legal and the entries are there.
pub head-entries : (s : List ℕ) → entry_count s ≤ entry_limit → head_size (entry_count s) ≤ length s
    → head_sound s ≡ entries_sound (entry_count s) 0 (head_size (entry_count s)) s
unfolding head_sound
head-entries s few there = simp (le-leb _ _ few, le-leb _ _ there)

pub head-none : (s : List ℕ) → length s < 2 → head_sound s ≡ false
unfolding head_sound
head-none s short = simp (lt-leb (head_size (entry_count s)) (length s) (omega arith), and-false)

pub head_many : (s : List ℕ) → entry_limit < entry_count s → head_sound s ≡ false
unfolding head_sound
head_many s many = simp (lt-leb _ _ many)

pub head-short : (s : List ℕ) → entry_count s ≤ entry_limit → length s < head_size (entry_count s) → head_sound s ≡ false
unfolding head_sound
head-short s few short = simp (le-leb _ _ few, lt-leb _ _ short)

-- Of n entries, those from k on.
module _ (n k place : ℕ) (s : List ℕ) (h : k < n) where
  more : n - k ≡ suc (n - (k + 1))
  more = omega arith

  pub turn_kind : 1 < kind_at k s → entries_sound (n - k) k place s ≡ false
  unfolding entries_sound
  turn_kind other = rw more (simp (lt-leb _ _ other))

  pub turn_offset : kind_at k s ≤ 1 → (offset_at k s ≡ place → ⊥) → entries_sound (n - k) k place s ≡ false
  unfolding entries_sound
  turn_offset kind other = rw more (simp (le-leb _ _ kind, ne_eqb _ _ other))

  pub turn : kind_at k s ≤ 1 → offset_at k s ≡ place → entries_sound (n - k) k place s ≡ entries_sound (n - (k + 1)) (k + 1) (place + size_at k s) s
  unfolding entries_sound
  turn kind same = rw more (simp (le-leb _ _ kind, eq-eqb _ _ same, add-one))

pub turned : (n k place : ℕ) (s : List ℕ) → k ≤ n → n ≤ k → entries_sound (n - k) k place s ≡ eqb place (length s)
unfolding entries_sound
turned n k place s le ge =
    let none : n - k ≡ 0 = omega arith in
    rw none

-- Sound entries end inside the section.
pub within : (left k place : ℕ) (s : List ℕ) → entries_sound left k place s ≡ true → place ≤ length s
unfolding entries_sound
within zero k place s e = omega (arith, eqb-true place (length s) e)
within (suc left) k place s e = omega (arith, within left (suc k) (place + size_at k s) s (entry-sound left k place s e).behind)

-- Of n entries, entry k, whose body is there whole.
pub next : (n k place : ℕ) (s : List ℕ) → k < n → entries_sound (n - k) k place s ≡ true → Entry (n - (k + 1)) k place s
next n k place s h e =
    let more : n - k ≡ suc (n - (k + 1)) = omega arith in
    entry-sound (n - (k + 1)) k place s (rw more at e)

pub whole : (n k place : ℕ) (s : List ℕ) → Entry n k place s → length (part place (size_at k s) s) ≡ size_at k s
whole n k place s e = length_part place (size_at k s) s (within n (suc k) (place + size_at k s) s e.behind)
