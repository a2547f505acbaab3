-- The two parts of a sealed input, for a tag of any size.
-- Assumes nothing.
use mathlib.Core.Path.{◌≡◌, refl, sym, ap, ap₂, ◌∙◌, subst}
use mathlib.Core.Bool.{Bool, true, false}
use mathlib.Core.List.{List, [], ◌++◌, append-nil}
use Prim.Native.Nat.{ℕ, ◌-◌, ◌≤◌, ◌<◌}
use native.Mathlib.Omega.{arith}
use borrow.Author.Tests.{ltb-true, ltb-false, lt-ltb, le-ltb}
use lib.Dec.{ltb}
use lib.ListN.{length, take, drop, length-append, take-append-drop, length-drop}
use lib.Seq.{take_at, drop_at}
use Rattle.bits.specs.Bytes.{Bytes}
use Rattle.bits.proofs.Packing.{Bytes-take, Bytes-drop}
use Rattle.tagged.specs.Payload.{ciphertext_part, tag_part, Parts}

module _ (size : ℕ) (input : List ℕ) where
  pub ciphertext_part_is : size ≤ length input → ciphertext_part size input ≡ take (length input - size) input
  unfolding ciphertext_part
  ciphertext_part_is h = simp (le-ltb (length input) size h)

  pub tag_part_is : size ≤ length input → tag_part size input ≡ drop (length input - size) input
  unfolding tag_part
  tag_part_is h = simp (le-ltb (length input) size h)

  pub ciphertext_part-short : length input < size → ciphertext_part size input ≡ input
  unfolding ciphertext_part
  ciphertext_part-short h = simp (lt-ltb (length input) size h)

  pub tag_part-short : length input < size → tag_part size input ≡ []
  unfolding tag_part
  tag_part-short h = simp (lt-ltb (length input) size h)

  parts_join : ciphertext_part size input ++ tag_part size input ≡ input
  parts_join = go (ltb (length input) size) refl
    where
      go : (short : Bool) → ltb (length input) size ≡ short → ciphertext_part size input ++ tag_part size input ≡ input
      go true e = let h = ltb-true (length input) size e in ap₂ ◌++◌ (ciphertext_part-short h) (tag_part-short h) ∙ append-nil input
      go false e = let h = ltb-false (length input) size e in ap₂ ◌++◌ (ciphertext_part_is h) (tag_part_is h) ∙ take-append-drop (length input - size) input

  pub parts : Parts size input
  parts = record {
    together = parts_join;
    lengths = sym (length-append (ciphertext_part size input) (tag_part size input)) ∙ ap length parts_join;
    before = ap (take border) (sym parts_join) ∙ take_at (ciphertext_part size input) (tag_part size input) border refl;
    behind = ap (drop border) (sym parts_join) ∙ drop_at (ciphertext_part size input) (tag_part size input) border refl;
    whole = λ h. ap length (tag_part_is h) ∙ omega (arith, length-drop (length input - size) input);
    short = tag_part-short;
  }
    where
      border : ℕ
      border = length (ciphertext_part size input)

  pub length-ciphertext_part : size ≤ length input → length (ciphertext_part size input) ≡ length input - size
  length-ciphertext_part h = omega (arith, parts.lengths, parts.whole h)

  pub ciphertext_part-bytes : Bytes input → Bytes (ciphertext_part size input)
  ciphertext_part-bytes b = subst Bytes parts.before (Bytes-take (length (ciphertext_part size input)) input b)

  pub tag_part-bytes : Bytes input → Bytes (tag_part size input)
  tag_part-bytes b = subst Bytes parts.behind (Bytes-drop (length (ciphertext_part size input)) input b)

module _ (size : ℕ) (c t : List ℕ) (sized : length t ≡ size) where
  joined_length : length c ≡ length (c ++ t) - size
  joined_length = omega (arith, length-append c t)

  pub ciphertext_part-joined : ciphertext_part size (c ++ t) ≡ c
  ciphertext_part-joined = ciphertext_part_is size (c ++ t) (omega (arith, length-append c t)) ∙ take_at c t (length (c ++ t) - size) joined_length

  pub tag_part-joined : tag_part size (c ++ t) ≡ t
  tag_part-joined = tag_part_is size (c ++ t) (omega (arith, length-append c t)) ∙ drop_at c t (length (c ++ t) - size) joined_length
