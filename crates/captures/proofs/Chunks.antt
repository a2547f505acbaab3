-- The entries of a section, of eight bytes each, and the numbers in them.
-- Assumes nothing.
use Rattle.std.proofs.Common.{◌≡◌, ℕ, zero, suc, ◌+◌, ◌-◌, ◌*◌, ◌/◌, ◌%◌, ◌^◌, ◌<◌, ◌≤◌, List, [], ◌∷◌, length, take, drop, get_or, refl, ap, ◌∙◌, arith, not-suc-le-zero, drop-drop, drop-cons, mod-eq_of_lt, lt_of_lt_of_le, mul-le-mul_left, pow_mono, append-nil}
use Rattle.std.proofs.lemmas.List.{take-take, drop-take}
use Rattle.std.specs.Simd.{first_chunks}
use Rattle.bits.specs.Bytes.{value, bits}
use Rattle.bits.proofs.Word.{value-word-small}
use Rattle.captures.specs.Layout.{part, number, number_at, head_size, kind_at, size_at, offset_at, entry_count}
use Rattle.captures.specs.Reading.{entry_of, entries_of}
use Rattle.captures.proofs.Places.{length_part, number_at_bound}

-- Of at most eight bytes none is left out.
pub number_read : (at n : ℕ) (s : List ℕ) (x : ℕ) → n ≤ 8 → x ≡ value (bits (part at n s)) % 2 ^ 64 → x ≡ number_at at n s
unfolding number
number_read at n s x few e = e ∙ mod-eq_of_lt (lt_of_lt_of_le (number_at_bound at n s) (pow_mono (mul-le-mul_left 8 few)))

-- The number of one byte is the byte.
pub number_byte : (at : ℕ) (s : List ℕ) → at < length s → get_or s at 0 < 256 → number_at at 1 s ≡ get_or s at 0
unfolding number bits
number_byte at s h small =
    let one : part at 1 s ≡ get_or s at 0 ∷ [] = ap (take 1) (drop-cons s at 0 h) in
    ap number one ∙ ap value (append-nil _) ∙ value-word-small 8 (get_or s at 0) small

-- A part of a part.
pub part-inside : (j n at m : ℕ) (s : List ℕ) → j + n ≤ m → part j n (part at m s) ≡ part (at + j) n s
part-inside j n at m s h =
    let split : m ≡ j + (m - j) = omega arith in
    ap (λ (w : ℕ). part j n (part at w s)) split ∙ ap (take n) (drop-take j (m - j) (drop at s)) ∙ take-take n (m - j) (drop j (drop at s)) (omega arith) ∙ ap (take n) (drop-drop j at s)

chunk : (n k : ℕ) (s d : List ℕ) → k < n → get_or (first_chunks 8 n s) k d ≡ part (8 * k) 8 s
chunk zero k s d h = absurd (not-suc-le-zero h)
chunk (suc n) zero s d h = refl
chunk (suc n) (suc k) s d h =
    let next : 8 + 8 * k ≡ 8 * suc k = omega arith in
    chunk n k (drop 8 s) d (omega arith) ∙ ap (take 8) (drop-drop (8 * k) 8 s) ∙ ap (λ (at : ℕ). part at 8 s) next

pub length-entries : (s : List ℕ) → length (entries_of s) ≡ entry_count s
length-entries s = go (entry_count s) (part 2 (8 * entry_count s) s)
  where
    go : (n : ℕ) (xs : List ℕ) → length (first_chunks 8 n xs) ≡ n
    go zero xs = refl
    go (suc n) xs = ap suc (go n (drop 8 xs))

-- The entries, as they are cut out.
pub entries_cut : (s : List ℕ) (n m : ℕ) (es : List (List ℕ)) → n ≡ entry_count s → head_size n ≤ length s → m ≡ 8 * n
    → es ≡ first_chunks 8 (length (part 2 m s) / 8) (part 2 m s) → es ≡ entries_of s
entries_cut s n m es e there long cut =
    let all : length (part 2 m s) / 8 ≡ n = omega (arith, long, length_part 2 m s (omega arith)) in
    cut ∙ ap (λ (k : ℕ). first_chunks 8 k (part 2 m s)) (all ∙ e) ∙ ap (λ (k : ℕ). first_chunks 8 (entry_count s) (part 2 k s)) (long ∙ ap (λ (k : ℕ). 8 * k) e)

-- Of the entries, entry k and what is read in it.
module _ (s : List ℕ) (es : List (List ℕ)) (all : es ≡ entries_of s) (k : ℕ) (h : k < length es) where
  pub within-count : k < entry_count s
  within-count = rw (ap length all ∙ length-entries s) at h

  entry_is : get_or es k [] ≡ part (head_size k) 8 s
  entry_is =
      ap (λ (xs : List (List ℕ)). get_or xs k []) all ∙ chunk (entry_count s) k (part 2 (8 * entry_count s) s) [] within-count
      ∙ part-inside (8 * k) 8 2 (8 * entry_count s) s (omega (arith, within-count))

  entry_number : (j n : ℕ) → j + n ≤ 8 → number_at j n (get_or es k []) ≡ number_at (head_size k + j) n s
  entry_number j n inside = ap (number_at j n) entry_is ∙ ap number (part-inside j n (head_size k) 8 s inside)

  pub entry_read : entry_of (number_at 0 1 (get_or es k [])) (number_at 1 3 (get_or es k [])) ≡ entry_of (kind_at k s) (size_at k s)
  entry_read =
      let same : head_size k + 0 ≡ head_size k = omega arith in
      rw (entry_number 0 1 (omega arith) ∙ ap (λ (at : ℕ). number_at at 1 s) same, entry_number 1 3 (omega arith)) refl

  pub entry_offset : number_at 4 4 (get_or es k []) ≡ offset_at k s
  entry_offset = entry_number 4 4 (omega arith)
