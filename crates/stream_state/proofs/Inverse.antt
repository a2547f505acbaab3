-- Reading and writing a stream are each other's inverse on the states that can occur.
-- Assumes nothing.
use mathlib.Core.Path.{◌≡◌, refl, sym, ap, ap₂, ◌∙◌}
use mathlib.Core.Bool.{Bool, true, ◌&&◌}
use mathlib.Core.List.{List, [], ◌∷◌, ◌++◌}
use Prim.Native.Nat.{ℕ, suc, ◌+◌, ◌*◌, ◌/◌, ◌%◌, ◌<◌, ◌≤◌}
use native.Mathlib.Omega.{arith}
use borrow.Author.Tests.{eq-eqb, eqb-true}
use Rattle.std.proofs.lemmas.Bool.{and_parts}
use lib.Dec.{eqb, lit<, lit≤}
use lib.ListN.{length, get_or, take, drop, length-drop, take-append-drop}
use lib.Seq.{take_at, drop_at, drop-drop, drop-cons, get_or-drop, length-take-le}
use Rattle.bits.specs.Bytes.{Bytes, bits, bytes, same}
use Rattle.bits.proofs.Packing.{length-bits, length-bytes, bytes_bits, bits-bytes, Bytes-take, Bytes-drop, same_equal, equal_same}
use Rattle.startup.specs.Editions.{number}
use Rattle.startup.specs.Naming.{known, named}
use Rattle.startup.proofs.Naming.{names}
use Rattle.stream_checks.specs.Counts.{can_occur}
use Rattle.stream_checks.specs.Rows.{state_size}
use Rattle.stream_state.specs.Stream.{Stream}
use Rattle.stream_state.specs.Layout.{two_bytes, two_at, spare, written, machine_at, counts_at, read, sound}
use Rattle.stream_state.specs.Laws.{Placed, Occurs, Inverse}

-- ---- what is written, piece by piece

-- The bits of a piece at the front of a string.
piece_bits : (n : ℕ) (s : List Bool) (rest : List ℕ) {l : List ℕ} → length s ≡ 8 * n → l ≡ bytes n s ++ rest → bits (take n l) ≡ s
piece_bits n s rest long e = ap (λ (t : List ℕ). bits (take n t)) e ∙ ap bits (take_at (bytes n s) rest n (length-bytes n s)) ∙ bits-bytes n s long

module _ (x : Stream) where
  -- What stands behind the registers.
  abbrev tail : List ℕ
  tail =
      (x.counts.kind ∷ x.counts.phase ∷ [])
      ++ (two_bytes x.counts.announced ++ (two_bytes x.counts.ad ++ (two_bytes x.counts.message ++ (number x.machine.edition ∷ spare))))

  w : List ℕ
  w = written x

  from_lfsr : w ≡ bytes 16 x.machine.generator.lfsr ++ (bytes 16 x.machine.generator.nfsr ++ (bytes 8 x.machine.authenticator.accumulator ++ (bytes 8 x.machine.authenticator.register ++ tail)))
  unfolding written w
  from_lfsr = refl

  from_nfsr : drop 16 w ≡ bytes 16 x.machine.generator.nfsr ++ (bytes 8 x.machine.authenticator.accumulator ++ (bytes 8 x.machine.authenticator.register ++ tail))
  from_nfsr = ap (drop 16) from_lfsr ∙ drop_at (bytes 16 x.machine.generator.lfsr) _ 16 (length-bytes 16 _)

  from_accumulator : drop 32 w ≡ bytes 8 x.machine.authenticator.accumulator ++ (bytes 8 x.machine.authenticator.register ++ tail)
  from_accumulator = sym (drop-drop 16 16 w) ∙ ap (drop 16) from_nfsr ∙ drop_at (bytes 16 x.machine.generator.nfsr) _ 16 (length-bytes 16 _)

  from_register : drop 40 w ≡ bytes 8 x.machine.authenticator.register ++ tail
  from_register = sym (drop-drop 8 32 w) ∙ ap (drop 8) from_accumulator ∙ drop_at (bytes 8 x.machine.authenticator.accumulator) _ 8 (length-bytes 8 _)

  from_kind : drop 48 w ≡ tail
  from_kind = sym (drop-drop 8 40 w) ∙ ap (drop 8) from_register ∙ drop_at (bytes 8 x.machine.authenticator.register) _ 8 (length-bytes 8 _)

  -- A byte from place 48 on.
  at : (i : ℕ) → get_or w (48 + i) 0 ≡ get_or tail i 0
  at i = sym (get_or-drop 48 w i 0) ∙ ap (λ (l : List ℕ). get_or l i 0) from_kind

  pub length-written : length (written x) ≡ state_size
  unfolding w
  length-written = omega (arith, ap length from_kind, length-drop 48 w)

  -- From place 48 + k on.
  behind : (k : ℕ) → drop (48 + k) w ≡ drop k tail
  behind k = sym (drop-drop k 48 w) ∙ ap (drop k) from_kind

  pub placed : Placed x (written x)
  unfolding w
  placed = record {
    lfsr = ap (take 16) from_lfsr ∙ take_at (bytes 16 x.machine.generator.lfsr) _ 16 (length-bytes 16 _);
    nfsr = ap (take 16) from_nfsr ∙ take_at (bytes 16 x.machine.generator.nfsr) _ 16 (length-bytes 16 _);
    accumulator = ap (take 8) from_accumulator ∙ take_at (bytes 8 x.machine.authenticator.accumulator) _ 8 (length-bytes 8 _);
    register = ap (take 8) from_register ∙ take_at (bytes 8 x.machine.authenticator.register) _ 8 (length-bytes 8 _);
    kind = at 0;
    phase = at 1;
    ad_length = ap (take 2) (behind 2);
    ad_taken = ap (take 2) (behind 4);
    message_taken = ap (take 2) (behind 6);
    edition = at 8;
    zeros = behind 9;
  }

  module _ (limit : ℕ) (o : Occurs limit x) where
    counts-read : counts_at w ≡ x.counts
    counts-read = λ i. record { kind = at 0 i; phase = at 1 i; announced = two x.counts.announced (at 2) (at 3) i; ad = two x.counts.ad (at 4) (at 5) i; message = two x.counts.message (at 6) (at 7) i }
      where
        two : (n : ℕ) {a b : ℕ} → a ≡ n / 256 → b ≡ n % 256 → 256 * a + b ≡ n
        two n p q = omega arith

    edition-read : named (get_or w 56 0) ≡ x.machine.edition
    edition-read = ap named (at 8) ∙ (names (number x.machine.edition)).its x.machine.edition refl

    machine-read : machine_at (named (get_or w 56 0)) w ≡ x.machine
    unfolding machine_at
    machine-read = λ i. record {
      edition = edition-read i;
      generator = record {
        lfsr = piece_bits 16 x.machine.generator.lfsr _ o.sized.generator.lfsr from_lfsr i;
        nfsr = piece_bits 16 x.machine.generator.nfsr _ o.sized.generator.nfsr from_nfsr i;
      };
      authenticator = record {
        accumulator = piece_bits 8 x.machine.authenticator.accumulator _ o.sized.authenticator.accumulator from_accumulator i;
        register = piece_bits 8 x.machine.authenticator.register _ o.sized.authenticator.register from_register i;
      };
    }

    pub read-written : read (written x) ≡ x
    unfolding read w
    read-written = λ i. record { machine = machine-read i; counts = counts-read i }

    pub sound-written : sound limit (written x) ≡ true
    unfolding sound w
    sound-written =
        ap₂ ◌&&◌ (eq-eqb (length w) state_size length-written)
        (ap₂ ◌&&◌ (ap known (at 8) ∙ (names (number x.machine.edition)).knows.1 (x.machine.edition, refl))
        (ap₂ ◌&&◌ (ap (can_occur limit) counts-read ∙ o.counted)
        (ap (λ (l : List ℕ). same l spare) (sym (drop-drop 9 48 w) ∙ ap (drop 9) from_kind) ∙ equal_same spare)))

-- ---- what is sound

pub record Soundly (limit : ℕ) (s : List ℕ) : Type 0 where
  pub size : length s ≡ state_size
  pub edition : known (get_or s 56 0) ≡ true
  pub counted : can_occur limit (counts_at s) ≡ true
  pub zeros : drop 57 s ≡ spare

pub soundly : (limit : ℕ) (s : List ℕ) → sound limit s ≡ true → Soundly limit s
unfolding sound
soundly limit s h =
    let p = and_parts (eqb (length s) state_size) _ h in
    let q = and_parts (known (get_or s 56 0)) _ p.1 in
    let r = and_parts (can_occur limit (counts_at s)) _ q.1 in
    record { size = eqb-true (length s) state_size p.0; edition = q.0; counted = r.0; zeros = same_equal (drop 57 s) spare r.1 }

module _ (limit : ℕ) (s : List ℕ) (is_bytes : Bytes s) (h : Soundly limit s) where
  long : (k n : ℕ) → k + n ≤ state_size → length (take n (drop k s)) ≡ n
  long k n fits = length-take-le n (drop k s) (omega (arith, length-drop k s, h.size))

  -- A piece of the state, read as bits and written again, with what lies behind it.
  again : (k n : ℕ) → k + n ≤ state_size → {rest : List ℕ} → rest ≡ drop (k + n) s → bytes n (bits (take n (drop k s))) ++ rest ≡ drop k s
  again k n fits behind =
      ap₂ ◌++◌ (ap (λ (m : ℕ). bytes m (bits (take n (drop k s)))) (sym (long k n fits)) ∙ bytes_bits (take n (drop k s)) (Bytes-take n (drop k s) (Bytes-drop k s is_bytes)))
      (behind ∙ sym (drop-drop n k s))
      ∙ take-append-drop n (drop k s)

  two_again : (k : ℕ) → two_bytes (two_at k s) ≡ get_or s k 0 ∷ get_or s (k + 1) 0 ∷ []
  two_again k =
      let low = is_bytes (k + 1) in
      let p : two_at k s / 256 ≡ get_or s k 0 = omega arith in
      let q : two_at k s % 256 ≡ get_or s (k + 1) 0 = omega arith in
      λ i. p i ∷ q i ∷ []

  edition_again : number (named (get_or s 56 0)) ≡ get_or s 56 0
  edition_again = let n = names (get_or s 56 0) in let e = n.knows.0 h.edition in ap number (n.its e.0 e.1) ∙ sym e.1

  byte : (k : ℕ) → k < state_size → {rest : List ℕ} → rest ≡ drop (suc k) s → get_or s k 0 ∷ rest ≡ drop k s
  byte k inside behind = ap (λ (l : List ℕ). get_or s k 0 ∷ l) behind ∙ sym (drop-cons s k 0 (omega (arith, h.size)))

  tail_again : tail (read s) ≡ drop 48 s
  unfolding read machine_at
  tail_again =
      (λ i. get_or s 48 0 ∷ get_or s 49 0 ∷ (two_again 50 i ++ (two_again 52 i ++ (two_again 54 i ++ (edition_again i ∷ sym h.zeros i)))))
      ∙ (byte 48 (lit< tt) (byte 49 (lit< tt) (byte 50 (lit< tt) (byte 51 (lit< tt) (byte 52 (lit< tt) (byte 53 (lit< tt) (byte 54 (lit< tt) (byte 55 (lit< tt) (byte 56 (lit< tt) refl)))))))))

  pub written_read : written (read s) ≡ s
  unfolding written read machine_at
  written_read = again 0 16 (lit≤ tt) (again 16 16 (lit≤ tt) (again 32 8 (lit≤ tt) (again 40 8 (lit≤ tt) tail_again)))

  pub read-occurs : Occurs limit (read s)
  unfolding read machine_at
  read-occurs = record {
    sized = record {
      generator = record { lfsr = places 0 16 (lit≤ tt); nfsr = places 16 16 (lit≤ tt) };
      authenticator = record { accumulator = places 32 8 (lit≤ tt); register = places 40 8 (lit≤ tt) };
    };
    announced = small 50;
    ad = small 52;
    message = small 54;
    counted = h.counted;
  }
    where
      places : (k n : ℕ) → k + n ≤ state_size → length (bits (take n (drop k s))) ≡ 8 * n
      places k n fits = length-bits (take n (drop k s)) ∙ ap (λ (m : ℕ). 8 * m) (long k n fits)

      small : (k : ℕ) → two_at k s < 65536
      small k = omega (arith, is_bytes k, is_bytes (k + 1))

pub inverse : (limit : ℕ) → Inverse limit
inverse limit = record {
  size = length-written;
  placed = placed;
  soundly = λ x. sound-written x limit;
  there = λ x. read-written x limit;
  back = λ s b h. written_read limit s b (soundly limit s h);
  occurs = λ s b h. read-occurs limit s b (soundly limit s h);
}
