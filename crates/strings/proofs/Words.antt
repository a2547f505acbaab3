-- A string gone over by its words of four bytes.
-- Assumes nothing.
use mathlib.Core.Path.{◌≡◌, sym, ap, ◌∙◌}
use mathlib.Core.List.{List, ◌++◌}
use Prim.Native.Nat.{ℕ, ◌+◌, ◌*◌, ◌/◌, ◌%◌, ◌^◌, ◌<◌, ◌≤◌}
use native.Mathlib.Omega.{arith}
use lib.Dec.{lit≤}
use lib.ListN.{length, take, drop, length-append, length-drop}
use lib.Seq.{take_at, drop_at, drop-drop}
use Rattle.std.specs.Iterator.Adapters.{enumerate_source, enumerate_count}
use Rattle.std.specs.Slice.Iter.{chunks_exact_rest, chunks_exact_size}
use Rattle.std.specs.declared.iter.Enumerate.{Enumerate}
use Rattle.std.specs.declared.slice.ChunksExact.{ChunksExact}
use Rattle.bits.specs.Bytes.{word, value, bits}
use Rattle.bits.proofs.Spelling.{spelled}
use Rattle.machine.specs.declared.edition.Edition.{Edition}
use Rattle.startup.specs.Editions.{bits_in}
use Rattle.startup.specs.Filling.{Orders}
use Rattle.startup.proofs.Ordered.{orders_bits}

-- What is left of the words of s.
pub record Fours (s : List ℕ) (words : Enumerate (ChunksExact ℕ)) : Type 0 where
  pub size : chunks_exact_size (enumerate_source words) ≡ 4
  pub rest : chunks_exact_rest (enumerate_source words) ≡ drop (enumerate_count words * 4) s
  pub inside : enumerate_count words * 4 ≤ length s

-- All at first.
pub fours_begun : (s : List ℕ) (words : Enumerate (ChunksExact ℕ)) → chunks_exact_size (enumerate_source words) ≡ 4 → chunks_exact_rest (enumerate_source words) ≡ s
    → enumerate_count words ≡ 0 → Fours s words
fours_begun s words size rest none = record { size = size; rest = rw none rest; inside = omega (arith, none) }

-- Word n.
pub record Four (s : List ℕ) (n : ℕ) (four : List ℕ) : Type 0 where
  pub long : length four ≡ 4
  pub its : four ≡ take 4 (drop (n * 4) s)
  pub inside : n * 4 + 4 ≤ length s

module _ {s : List ℕ} {words : Enumerate (ChunksExact ℕ)} (left : Fours s words) where
  -- None, when there are fewer than four bytes.
  pub fours_over : length (chunks_exact_rest (enumerate_source words)) < chunks_exact_size (enumerate_source words) → enumerate_count words ≡ length s / 4
  fours_over few = omega (arith, few, left.size, left.inside, ap length left.rest, length-drop (enumerate_count words * 4) s)

  -- The next, and those behind it.
  module _ (next : Enumerate (ChunksExact ℕ)) (four : List ℕ) (off : chunks_exact_rest (enumerate_source words) ≡ four ++ chunks_exact_rest (enumerate_source next))
      (size : length four ≡ chunks_exact_size (enumerate_source words)) where
    pub four_off : Four s (enumerate_count words) four
    four_off = record {
      long = size ∙ left.size;
      its = sym (ap (take 4) (sym left.rest ∙ off) ∙ take_at four (chunks_exact_rest (enumerate_source next)) 4 (size ∙ left.size));
      inside =
          omega (arith, left.inside, left.size, size, ap length (sym left.rest ∙ off), length-append four (chunks_exact_rest (enumerate_source next)), length-drop (enumerate_count words * 4) s);
    }

    pub fours_on : chunks_exact_size (enumerate_source next) ≡ chunks_exact_size (enumerate_source words) → enumerate_count next ≡ enumerate_count words + 1 → Fours s next
    fours_on same more = record {
      size = same ∙ left.size;
      rest =
          sym (ap (drop 4) (sym left.rest ∙ off) ∙ drop_at four (chunks_exact_rest (enumerate_source next)) 4 (size ∙ left.size))
          ∙ drop-drop 4 (enumerate_count words * 4) s ∙ ap (λ (k : ℕ). drop k s) (omega (arith, more));
      inside = omega (arith, more, four_off.inside);
    }

-- A word's number, in the edition's order.
pub four_spelled : (e : Edition) {s four : List ℕ} {n : ℕ} (x r : ℕ) → Four s n four → x ≡ value (bits four) % 2 ^ 64 → Orders e x r
    → word 32 r ≡ bits_in e (take 4 (drop (n * 4) s))
four_spelled e {s} {four} {n} x r f spells orders =
    ap (λ (k : ℕ). word (8 * k) r) (sym f.long) ∙ orders_bits e four x r few (spelled four x few spells) orders ∙ ap (bits_in e) f.its
  where
    few : length four ≤ 8
    few = rw f.long (lit≤ tt)
