-- A word moved up by the places where a string has a 1, added up: n places of the string at a time, from its end on, by a table.
-- Assumes nothing.
use mathlib.Core.Path.{◌≡◌, sym, ap, ap₂, ◌∙◌}
use mathlib.Core.Bool.{Bool, true, false}
use mathlib.Core.List.{List, [], ◌∷◌, ◌++◌, map}
use Prim.Native.Nat.{ℕ, zero, suc, ◌+◌, ◌*◌, ◌/◌, ◌%◌, ◌^◌}
use native.Mathlib.Nat.{le_of_eq, zero-add, add_comm, mul-one, mul-suc, mul_assoc, mul-zero, div-one, mod-lt, mod-mod}
use lib.Bits.{bit_xor}
use lib.ListN.{length, get_or}
use lib.Pow.{pow_pos, pow-add, shr-shr}
use Rattle.std.specs.List.{range_with_len}
use Rattle.std.proofs.lemmas.List.FromFn.{get_or-map-range_with_len}
use Rattle.bits.specs.Bytes.{word}
use Rattle.bits.specs.Strings.{◌⊞◌}
use Rattle.bits.proofs.Lowest.{word-xor}
use Rattle.bits.proofs.Moved.{up, word-up, up-zeros, up-sum, word-zero, word_split}
use Rattle.bits.proofs.Sum.{sum_comm, sum_assoc, sum_zeros}
use Rattle.bits.proofs.Word.{length-word, word_agrees}
use Rattle.authenticator.specs.ClosedForm.{registers_at}
use Rattle.authenticator.proofs.Linear.{registers_at_from, registers_at-map, registers_at-append}

-- The word moved up by i places, as a string of w places.
abbrev pub ups : (w r : ℕ) → ℕ → List Bool
ups w r i = word w (r * 2 ^ i)

-- It as a number of w bits.
unfoldable pub moved : (w r : ℕ) → ℕ → ℕ
moved w r zero = r
moved w r (suc i) = r * 2 ^ suc i % 2 ^ w

word_moved : (w r i : ℕ) → word w (moved w r i) ≡ ups w r i
unfolding moved
word_moved w r zero = ap (word w) (sym (mul-one r))
word_moved w r (suc i) = word_agrees w (r * 2 ^ suc i % 2 ^ w) (r * 2 ^ suc i) (mod-mod (r * 2 ^ suc i) (2 ^ w))

-- The words at the places, counted from i, where a string has a 1, joined from the left: onto a word, and by themselves.
unfoldable pub onto : (ℕ → ℕ) → (a i : ℕ) → List Bool → ℕ
onto x a i [] = a
onto x a i (true ∷ s) = onto x (bit_xor a (x i)) (suc i) s
onto x a i (false ∷ s) = onto x a (suc i) s

unfoldable pub joined : (ℕ → ℕ) → ℕ → List Bool → ℕ
joined x i [] = 0
joined x i (true ∷ s) = onto x (x i) (suc i) s
joined x i (false ∷ s) = joined x (suc i) s

module _ (w : ℕ) (x : ℕ → ℕ) where
  word-onto : (a i : ℕ) (s : List Bool) → word w (onto x a i s) ≡ word w a ⊞ registers_at w (λ j. word w (x j)) i s
  unfolding onto registers_at
  word-onto a i [] = sym (sum_zeros (word w a) w (le_of_eq (sym (length-word w a))))
  word-onto a i (true ∷ s) =
      word-onto (bit_xor a (x i)) (suc i) s ∙ ap (λ (t : List Bool). t ⊞ rest) (word-xor w a (x i)) ∙ sum_assoc (word w a) (word w (x i)) rest
    where
      rest : List Bool
      rest = registers_at w (λ j. word w (x j)) (suc i) s
  word-onto a i (false ∷ s) = word-onto a (suc i) s

  word-joined : (i : ℕ) (s : List Bool) → word w (joined x i s) ≡ registers_at w (λ j. word w (x j)) i s
  unfolding joined registers_at
  word-joined i [] = word-zero w
  word-joined i (true ∷ s) = word-onto (x i) (suc i) s
  word-joined i (false ∷ s) = word-joined (suc i) s

-- Entry v: the word moved up by the places where the n bits of v have a 1.
unfoldable pub table : (w n r : ℕ) → List ℕ
table w n r = map (λ v. joined (moved w r) 0 (word n v)) (range_with_len 0 (2 ^ n))

-- After the last n * k bits of m: what is left of it, and the sum over these bits.
abbrev pub Taken : (w n r m k left z : ℕ) → Type 0
Taken w n r m k left z = (left ≡ m / 2 ^ (n * k)) × (word w z ≡ registers_at w (ups w r) 0 (word (n * k) m))

module _ (w n r : ℕ) where
  table_at : (v : ℕ) → word w (get_or (table w n r) (v % 2 ^ n) 0) ≡ registers_at w (ups w r) 0 (word n v)
  unfolding table
  table_at v =
      ap (word w) (get_or-map-range_with_len (λ v. joined (moved w r) 0 (word n v)) 0 (2 ^ n) (v % 2 ^ n) (v % 2 ^ n) 0 (mod-lt v (pow_pos n)) (zero-add (v % 2 ^ n)))
      ∙ ap (λ (s : List Bool). word w (joined (moved w r) 0 s)) (word_agrees n (v % 2 ^ n) v (mod-mod v (2 ^ n)))
      ∙ word-joined w (moved w r) 0 (word n v)
      ∙ (λ p. registers_at w (λ j. word_moved w r j p) 0 (word n v))

  -- All moved up by n places more.
  ups_further : (s : List Bool) → up n (registers_at w (ups w r) 0 s) ≡ registers_at w (ups w r) n s
  ups_further s =
      registers_at-map w w (up n) (up-zeros n w) (up-sum n) (ups w r) 0 s
      ∙ (λ p. registers_at w (λ j. further j p) 0 s)
      ∙ sym (registers_at_from w (ups w r) n s)
    where
      further : (j : ℕ) → up n (ups w r j) ≡ ups w r (j + n)
      further j = sym (word-up w n (r * 2 ^ j)) ∙ ap (word w) (mul_assoc r (2 ^ j) (2 ^ n) ∙ ap (λ (p : ℕ). r * p) (sym (pow-add 2 j n)))

  pub taken_none : (m : ℕ) → Taken w n r m 0 m 0
  unfolding word registers_at
  taken_none m =
      (sym (div-one m) ∙ ap (λ (l : ℕ). m / 2 ^ l) (sym (mul-zero n)), word-zero w ∙ ap (λ (l : ℕ). registers_at w (ups w r) 0 (word l m)) (sym (mul-zero n)))

  -- n bits more.
  pub taken_more : (m k left z : ℕ) → Taken w n r m k left z
      → Taken w n r m (suc k) (left / 2 ^ n) (bit_xor (z * 2 ^ n % 2 ^ w) (get_or (table w n r) (left % 2 ^ n) 0))
  taken_more m k left z (el, ez) = (
    ap (λ (l : ℕ). l / 2 ^ n) el ∙ shr-shr m (n * k) n ∙ ap (λ (l : ℕ). m / 2 ^ l) (sym (mul-suc n k)),
    word-xor w (z * 2 ^ n % 2 ^ w) (get_or (table w n r) (left % 2 ^ n) 0)
        ∙ ap₂ ◌⊞◌ (word_agrees w (z * 2 ^ n % 2 ^ w) (z * 2 ^ n) (mod-mod (z * 2 ^ n) (2 ^ w)) ∙ word-up w n z ∙ ap (up n) ez ∙ ups_further rest) (table_at left)
        ∙ sum_comm (registers_at w (ups w r) n rest) (registers_at w (ups w r) 0 (word n left))
        ∙ ap (λ (i : ℕ). registers_at w (ups w r) 0 (word n left) ⊞ registers_at w (ups w r) i rest) (sym (zero-add (length (word n left)) ∙ length-word n left))
        ∙ sym (registers_at-append w (ups w r) (λ i. length-word w (r * 2 ^ i)) 0 (word n left) rest)
        ∙ ap (registers_at w (ups w r) 0)
        (ap (λ (l : ℕ). word n l ++ rest) el ∙ sym (word_split n (n * k) m) ∙ ap (λ (l : ℕ). word l m) (add_comm n (n * k) ∙ sym (mul-suc n k))),
  )
    where
      rest : List Bool
      rest = word (n * k) m
