-- How a stream goes on, from what the functions below say of the engine.
-- Assumes nothing.
use mathlib.Core.Path.{◌≡◌, refl, sym, ap, ap₂, ◌∙◌}
use mathlib.Core.Bool.{Bool, true, false, not}
use mathlib.Core.List.{List, [], ◌∷◌, ◌++◌}
use Prim.Native.Nat.{ℕ, ◌*◌, ◌%◌, ◌^◌, ◌<◌, ◌≤◌}
use lib.Dec.{lit≤}
use lib.ListN.{length, take, drop}
use lib.Seq.{take_all, length-take-le}
use Rattle.bits.specs.Bytes.{Bytes, word, value, bits, bytes, same}
use Rattle.bits.proofs.Packing.{same_equal, equal_same}
use Rattle.bits.proofs.Word.{length-word}
use Rattle.tagged.proofs.Entry.{same_number, same_tag}
use Rattle.machine.specs.declared.edition.Edition.{Edition}
use Rattle.machine.specs.declared.engine.Engine.{Engine}
use Rattle.machine.specs.Machine.{run, decipher}
use Rattle.machine.specs.Engine.{state_of}
use Rattle.startup.specs.Editions.{bits_in, bytes_in, started, initialised}
use Rattle.startup.proofs.Order.{length-bytes_in}
use Rattle.strings.specs.Strings.{CryptsAll}
use Rattle.lengths.specs.CodedLength.{coded_length}
use Rattle.payload.proofs.Begun.{carried}
use Rattle.stream_checks.specs.declared.counts.Kind.{Kind}
use Rattle.stream_checks.specs.declared.counts.Kind.TheVariants.{Sealing, Checking}
use Rattle.stream_checks.specs.declared.counts.Counts.{Counts}
use Rattle.stream_checks.specs.Counts.{number}
use Rattle.stream_state.specs.declared.Session.{Session}
use Rattle.stream_state.specs.Stream.{stream_of}
use Rattle.streams.specs.Going.{begun, more_ad, more_message, with_ad, with_text, cipher, tag_of}

pub start-edition : (e : Edition) (key nonce : List ℕ) (a : Engine) → state_of a ≡ initialised e key nonce → a.edition ≡ e
unfolding initialised started
start-edition e key nonce a h = carried a (initialised e key nonce) h

-- After begin.
pub starts : (kind : Kind) (key nonce : List ℕ) (announced : ℕ) (after : Engine) {e v : Edition} {k : ℕ} → v ≡ e
    → state_of after ≡ run (initialised v key nonce) (bits_in v (coded_length announced)) → k ≡ number kind
    → stream_of record { engine = after; counts = record { kind = k; phase = 0; announced = announced; ad = 0; message = 0 } } ≡ begun kind e key nonce announced
unfolding stream_of
starts kind key nonce announced after same ran is = λ i. record {
  machine = (ran ∙ ap (λ (w : Edition). run (initialised w key nonce) (bits_in w (coded_length announced))) same) i;
  counts = record { kind = is i; phase = 0; announced = announced; ad = 0; message = 0 };
}

-- After a piece of AD, of message, of ciphertext.
module _ (x : Session) (piece : List ℕ) (after : Engine) (counts : Counts) where
  pub absorbed : state_of after ≡ run (state_of x.engine) (bits_in x.engine.edition piece) → counts ≡ more_ad x.counts (length piece)
      → stream_of record { engine = after; counts = counts } ≡ with_ad (stream_of x) piece
  unfolding stream_of state_of
  absorbed ran counted = λ i. record { machine = ran i; counts = counted i }

  pub deciphered : state_of after ≡ run (state_of x.engine) (decipher (state_of x.engine) (bits_in x.engine.edition piece)) → counts ≡ more_message x.counts (length piece)
      → stream_of record { engine = after; counts = counts } ≡ with_text Checking (stream_of x) piece
  unfolding stream_of state_of
  deciphered ran counted = λ i. record { machine = ran i; counts = counted i }

  module _ {lent out : List ℕ} (room : length piece ≤ length lent) (c : CryptsAll x.engine.edition true true (state_of x.engine) (take (length lent) piece) lent out after) where
    whole : CryptsAll x.engine.edition true true (state_of x.engine) piece lent out after
    whole = rw (take_all (length lent) piece room) at c

    pub enciphered : counts ≡ more_message x.counts (length piece) → stream_of record { engine = after; counts = counts } ≡ with_text Sealing (stream_of x) piece
    unfolding stream_of state_of
    enciphered counted = λ i. record { machine = whole.engine i; counts = counted i }

    pub enciphered-output : out ≡ cipher (stream_of x) piece ++ drop (length (cipher (stream_of x) piece)) lent
    unfolding stream_of state_of
    enciphered-output = whole.written ∙ ap (λ (n : ℕ). cipher (stream_of x) piece ++ drop n lent) (sym (length-bytes_in x.engine.edition (length piece) _))

-- The tag: at the front of an output, and beside a given one.
module _ (x : Session) (r : ℕ) (computed : bytes 8 (word 64 r) ≡ bytes_in x.engine.edition 8 (run (state_of x.engine) (true ∷ [])).authenticator.accumulator) where
  tagged : bytes 8 (word 64 r) ≡ tag_of (stream_of x)
  unfolding stream_of state_of
  tagged = computed

  pub tag-output : (lent : List ℕ) {front : List ℕ} → 8 ≤ length lent → front ≡ bytes (length (take 8 lent)) (word (8 * length (take 8 lent)) r)
      → front ++ drop 8 lent ≡ tag_of (stream_of x) ++ drop (length (tag_of (stream_of x))) lent
  tag-output lent room spelled =
      ap₂ (λ (t : List ℕ) (n : ℕ). t ++ drop n lent) (spelled ∙ ap (λ (n : ℕ). bytes n (word (8 * n) r)) (length-take-le 8 lent room) ∙ tagged)
      (sym (length-bytes_in (stream_of x).machine.edition 8 _))

  module _ (tag : List ℕ) (n : ℕ) (eight : length tag ≡ 8) (is_bytes : Bytes tag) (small : r < 2 ^ 64) (spelled : n ≡ value (bits tag) % 2 ^ 64) where
    pub tag_same : r ≡ n → not (same tag (tag_of (stream_of x))) ≡ false
    tag_same e =
        ap (λ (t : List ℕ). not (same t (tag_of (stream_of x)))) (same_number 8 tag (word 64 r) r n (lit≤ tt) eight is_bytes (length-word 64 r) small spelled refl e ∙ tagged)
        ∙ ap not (equal_same (tag_of (stream_of x)))

    pub tag_differs_lem : (r ≡ n → ⊥) → not (same tag (tag_of (stream_of x))) ≡ true
    tag_differs_lem differs = go (same tag (tag_of (stream_of x))) refl
      where
        go : (b : Bool) → same tag (tag_of (stream_of x)) ≡ b → not b ≡ true
        go true h = absurd (differs (same_tag 8 tag (word 64 r) r n (lit≤ tt) eight is_bytes (length-word 64 r) small spelled refl (same_equal tag (tag_of (stream_of x)) h ∙ sym tagged)))
        go false h = refl
