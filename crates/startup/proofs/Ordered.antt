-- Words whose bytes are in an edition's order.
-- Assumes nothing.
use mathlib.Core.Path.{◌≡◌, refl, sym, ap, ap₂, ◌∙◌}
use mathlib.Core.Bool.{Bool}
use mathlib.Core.List.{List, [], ◌∷◌, ◌++◌, append-nil, map, reverse}
use Prim.Native.Nat.{ℕ, ◌*◌, ◌%◌, ◌^◌, ◌<◌, ◌≤◌}
use native.Mathlib.Nat.{mod-mod, le_of_eq}
use lib.Bits.{bit_or}
use lib.Dec.{lit≤}
use lib.ListN.{length}
use lib.Seq.{take_at, drop_at}
use Rattle.bits.specs.Bytes.{word, value, bits, bytes}
use Rattle.bits.specs.Turned.{turned, Turns}
use Rattle.bits.proofs.Moved.{word-or}
use Rattle.bits.proofs.Packing.{length-bits, bits-bytes}
use Rattle.bits.proofs.Spelling.{spelled}
use Rattle.bits.proofs.Word.{length-word, value-word, word_agrees, word-append}
use Rattle.machine.specs.declared.edition.Edition.{Edition}
use Rattle.machine.specs.declared.edition.Edition.TheVariants.{First, Second}
use Rattle.startup.specs.Editions.{ordered, bits_in, bytes_in}
use Rattle.startup.specs.Filling.{Orders}

-- What is turned is the eight lowest bits of each number alone.
turned-lowest : (s : List ℕ) → map turned (bytes (length s) (bits s)) ≡ map turned s
unfolding bits bytes turned
turned-lowest [] = refl
turned-lowest (b ∷ s) =
    ap₂ ◌∷◌
    (ap turned (ap value (take_at (word 8 b) (bits s) 8 (length-word 8 b)) ∙ value-word 8 b)
    ∙ ap (λ (w : List Bool). value (reverse w)) (word_agrees 8 (b % 256) b (mod-mod b 256)))
    (ap (λ (r : List Bool). map turned (bytes (length s) r)) (drop_at (word 8 b) (bits s) 8 (length-word 8 b)) ∙ turned-lowest s)

ordered-lowest : (e : Edition) (s : List ℕ) → bits (ordered e (bytes (length s) (bits s))) ≡ bits_in e s
unfolding ordered bits_in
ordered-lowest First s = bits-bytes (length s) (bits s) (length-bits s)
ordered-lowest Second s = ap bits (turned-lowest s)

-- The order of a byte sees the eight lowest bits of a number.
pub bits_in-lowest : (e : Edition) (b : ℕ) → bits_in e (b % 256 ∷ []) ≡ bits_in e (b ∷ [])
unfolding ordered bits_in bits turned
bits_in-lowest First b = ap (λ (w : List Bool). w ++ []) (word_agrees 8 (b % 256) b (mod-mod b 256))
bits_in-lowest Second b = ap (λ (w : List Bool). bits (value (reverse w) ∷ [])) (word_agrees 8 (b % 256) b (mod-mod b 256))

-- A word that spells a string of up to eight bytes spells, in the edition's order, their bits in it.
pub orders_bits : (e : Edition) (s : List ℕ) (w r : ℕ) → length s ≤ 8 → word (8 * length s) w ≡ bits s → Orders e w r → word (8 * length s) r ≡ bits_in e s
unfolding bytes_in
orders_bits e s w r h spelled orders =
    sym (bits-bytes (length s) (word (8 * length s) r) (length-word (8 * length s) r))
    ∙ ap bits (orders (length s) h)
    ∙ ap (λ (t : List Bool). bits (ordered e (bytes (length s) t))) spelled ∙ ordered-lowest e s

-- The order of the first edition is that of the bytes themselves.
pub orders_first : (w : ℕ) → Orders First w w
unfolding bytes_in ordered
orders_first w k h = refl

pub orders_second : (w r : ℕ) → Turns w r → Orders Second w r
unfolding bytes_in ordered
orders_second w r turns = turns

-- A byte alone.
pub word_byte : (e : Edition) (b r : ℕ) → Orders e b r → word 8 (r % 256) ≡ bits_in e (b ∷ [])
word_byte e b r orders =
    word_agrees 8 (r % 256) r (mod-mod r 256)
    ∙ orders_bits e (b ∷ []) b r (lit≤ tt) (unfold bits in (sym (append-nil (word 8 b)))) orders

-- Eight bytes of a string in a word, and four above 32 given bits.
pub word_eight : (e : Edition) (s : List ℕ) (n r : ℕ) → length s ≡ 8 → n ≡ value (bits s) % 2 ^ 64 → Orders e n r → word 64 r ≡ bits_in e s
word_eight e s n r len spells orders =
    ap (λ (k : ℕ). word (8 * k) r) (sym len) ∙ orders_bits e s n r (le_of_eq len) (spelled s n (le_of_eq len) spells) orders

pub word_four : (e : Edition) (s : List ℕ) (n r low : ℕ) → length s ≡ 4 → low < 2 ^ 32 → n ≡ value (bits s) % 2 ^ 64 → Orders e n r
    → word 64 (bit_or (r * 2 ^ 32 % 2 ^ 64) low) ≡ bits_in e s ++ word 32 low
word_four e s n r low len h spells orders =
    word-or 32 32 r low h ∙ word-append 32 32 r low h
    ∙ ap (λ (t : List Bool). t ++ word 32 low) (ap (λ (k : ℕ). word (8 * k) r) (sym len) ∙ orders_bits e s n r few (spelled s n few spells) orders)
  where
    few : length s ≤ 8
    few = rw len (lit≤ tt)
