-- A raw number that is written into a message is read back, and what is read, written back, leaves the message as it was.
-- Assumes nothing.
use mathlib.Core.Path.{◌≡◌, sym, ap, ◌∙◌}
use mathlib.Core.Logic.{◌⊎◌, inl, inr}
use mathlib.Core.Bool.{Bool, true, false}
use mathlib.Core.List.{List, ◌++◌}
use Prim.Native.Nat.{ℕ, ◌+◌, ◌-◌, ◌^◌, ◌<◌, ◌≤◌, zero-le}
use native.Mathlib.Omega.{arith}
use lib.Dec.{le→leb}
use lib.IntN.{ℤ}
use lib.ListN.{length, take, drop, length-append, length-drop, take-append-drop, get_or-append}
use lib.Seq.{length-take-le, take_at, drop_at, drop-drop, get_or-take, get_or-drop, get_or-append-add}
use lib.Signed.{◌≤ℤ◌, le_z_yes, ≤ℤ_refl}
use Rattle.bits.specs.Bytes.{Bytes, word, bits, bytes}
use Rattle.bits.specs.Strings.{places}
use Rattle.bits.proofs.Packing.{length-bits, length-bytes, bits-bytes, bytes_bits, bytes_are_bytes}
use Rattle.bits.proofs.Word.{length-word}
use Rattle.signals.specs.Raw.{misplaced, field, number, raw}
use Rattle.signals.specs.Writing.{lowest, highest, InRange, complement, written, ReadsBack}
use Rattle.signals.proofs.Placed.{placed, length-field}
use Rattle.signals.proofs.Complement.{neg-pos, word_number, number_word, raw-in_range}

-- ---- a string of bits with another string, of w places, put at place p

put : List Bool → (p w : ℕ) → List Bool → List Bool
put s p w t = take p s ++ (t ++ drop (p + w) s)

module _ (s : List Bool) (p w : ℕ) (t : List Bool) (h : p + w ≤ length s) (e : length t ≡ w) where
  front : length (take p s) ≡ p
  front = length-take-le p s (omega arith)

  length_put : length (put s p w t) ≡ length s
  unfolding put
  length_put = simp (length-append, length-drop) (omega (arith, front))

  put_there : take w (drop p (put s p w t)) ≡ t
  unfolding put
  put_there = ap (take w) (drop_at (take p s) (t ++ drop (p + w) s) p front) ∙ take_at t (drop (p + w) s) w e

  put_before : (i : ℕ) → i < p → places (put s p w t) i ≡ places s i
  unfolding put
  put_before i l = get_or-append (take p s) (t ++ drop (p + w) s) false i (omega (arith, front)) ∙ get_or-take p s i false l

  put_behind : (i : ℕ) → p + w ≤ i → places (put s p w t) i ≡ places s i
  unfolding put
  put_behind i l =
      ap (λ (k : ℕ). places (take p s ++ (t ++ drop (p + w) s)) k) place
      ∙ get_or-append-add (take p s) (t ++ drop (p + w) s) (length t + (i - (p + w))) false
      ∙ get_or-append-add t (drop (p + w) s) (i - (p + w)) false
      ∙ get_or-drop (p + w) s (i - (p + w)) false
      ∙ ap (places s) back
    where
      place : i ≡ length (take p s) + (length t + (i - (p + w)))
      place = omega (arith, front)

      back : p + w + (i - (p + w)) ≡ i
      back = omega arith

put_back : (s : List Bool) (p w : ℕ) → put s p w (take w (drop p s)) ≡ s
unfolding put
put_back s p w =
    ap (λ (r : List Bool). take p s ++ (take w (drop p s) ++ r)) (sym (drop-drop w p s))
    ∙ ap (λ (r : List Bool). take p s ++ r) (take-append-drop w (drop p s)) ∙ take-append-drop p s

-- ---- the ends of a range are in it

ends-ordered : (width : ℕ) (signed : Bool) → lowest width signed ≤ℤ highest width signed
ends-ordered width true = neg-pos (2 ^ (width - 1)) (2 ^ (width - 1) - 1)
ends-ordered width false = le_z_yes (le→leb 0 (2 ^ width - 1) zero-le)

-- ---- a signal

module _ (message : List ℕ) (start width : ℕ) (at : misplaced (length message) start width ≡ false) where
  inside : start + width ≤ length (bits message)
  inside = omega (arith, (placed (length message) start width at).inside, length-bits message)

  bits-written : (n : ℤ) → bits (written message start width n) ≡ put (bits message) start width (word width (complement width n))
  unfolding written put
  bits-written n =
      bits-bytes (length message) _
      (length_put (bits message) start width (word width (complement width n)) inside (length-word width (complement width n)) ∙ length-bits message)

  read_back : (signed : Bool) (n : ℤ) → InRange width signed n → raw (written message start width n) start width signed ≡ n
  read_back signed n r =
      ap (λ (s : List Bool). number signed (take width (drop start s))) (bits-written n)
      ∙ ap (number signed) (put_there (bits message) start width _ inside (length-word width _))
      ∙ number_word width signed n (placed (length message) start width at).least r

  wrote-back : (signed : Bool) → Bytes message → written message start width (raw message start width signed) ≡ message
  unfolding written put
  wrote-back signed sound =
      ap (λ (t : List Bool). bytes (length message) (put (bits message) start width t))
      (word_number width signed (field message start width) (length-field message start width (placed (length message) start width at).inside))
      ∙ ap (bytes (length message)) (put_back (bits message) start width)
      ∙ bytes_bits message sound

  elsewhere : (n : ℤ) (i : ℕ) → (i < start) ⊎ (start + width ≤ i) → places (bits (written message start width n)) i ≡ places (bits message) i
  elsewhere n i (inl h) = ap (λ (s : List Bool). places s i) (bits-written n) ∙ put_before (bits message) start width _ inside (length-word width _) i h
  elsewhere n i (inr h) = ap (λ (s : List Bool). places s i) (bits-written n) ∙ put_behind (bits message) start width _ inside (length-word width _) i h

pub reads_back : ReadsBack
unfolding written
reads_back message start width signed sound at = record {
  in_range = raw-in_range message start width at signed;
  read = read_back message start width at signed;
  wrote = wrote-back message start width at signed sound;
  lowest_reached = read_back message start width at signed (lowest width signed) (≤ℤ_refl (lowest width signed), ends-ordered width signed);
  highest_reached = read_back message start width at signed (highest width signed) (ends-ordered width signed, ≤ℤ_refl (highest width signed));
  size = λ n. length-bytes (length message) _;
  is_bytes = λ n. bytes_are_bytes (length message) _;
  others = elsewhere message start width at;
}
