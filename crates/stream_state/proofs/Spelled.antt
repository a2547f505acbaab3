-- A stream written as words: their bytes one after the other.
-- Assumes nothing.
use mathlib.Core.Path.{◌≡◌, refl, sym, ap, ap₂, ◌∙◌}
use mathlib.Core.List.{List, [], ◌∷◌, ◌++◌, append_assoc, append-nil}
use Prim.Native.Nat.{ℕ, zero, suc, ◌+◌, ◌*◌, ◌/◌, ◌%◌, ◌^◌, ◌<◌, ◌≤◌}
use native.Mathlib.Nat.{le_of_lt}
use native.Mathlib.Numerals.{add-one}
use native.Mathlib.Omega.{arith}
use lib.ListN.{length, get_or, take, drop, length-append, drop_of_length-le}
use lib.Seq.{take_at, drop_at, take-suc, take_all, length-take-le, drop-drop}
use Rattle.bits.specs.Bytes.{word, bytes}
use Rattle.bits.proofs.Packing.{length-bytes, bytes-append}
use Rattle.bits.proofs.Spelling.{bytes-word-cons}
use Rattle.bits.proofs.Word.{length-word}
use Rattle.preoutput.specs.declared.Registers.{Registers}
use Rattle.preoutput.specs.Words.{generator_of}
use Rattle.authenticator.specs.Words.{authenticator_of}
use Rattle.machine.specs.Engine.{state_of}
use Rattle.startup.specs.Editions.{number}
use Rattle.stream_state.specs.declared.Session.{Session}
use Rattle.stream_state.specs.Stream.{stream_of}
use Rattle.stream_state.specs.Words.{spelled_words}
use Rattle.stream_state.specs.Layout.{two_bytes, spare, written}

-- The n lowest bytes of a word, high byte first.
abbrev low_bytes : (n w : ℕ) → List ℕ
low_bytes zero w = []
low_bytes (suc n) w = w / 2 ^ (8 * n) % 256 ∷ low_bytes n w

pub low_bytes_lem : (n w : ℕ) → bytes n (word (8 * n) w) ≡ low_bytes n w
unfolding bytes
low_bytes_lem zero w = refl
low_bytes_lem (suc n) w = bytes-word-cons n w ∙ ap (λ (l : List ℕ). w / 2 ^ (8 * n) % 256 ∷ l) (low_bytes_lem n w)

pub counts-bytes : (k p n a m w : ℕ) → k < 256 → p < 256 → n < 65536 → a < 65536 → m < 65536 → w ≡ k * 2 ^ 56 + p * 2 ^ 48 + n * 2 ^ 32 + a * 2 ^ 16 + m
    → bytes 8 (word 64 w) ≡ (k ∷ p ∷ []) ++ (two_bytes n ++ (two_bytes a ++ two_bytes m))
counts-bytes k p n a m w hk hp hn ha hm e =
    let b7 : w / 2 ^ 56 % 256 ≡ k = omega arith in
    let b6 : w / 2 ^ 48 % 256 ≡ p = omega arith in
    let b5 : w / 2 ^ 40 % 256 ≡ n / 256 = omega arith in
    let b4 : w / 2 ^ 32 % 256 ≡ n % 256 = omega arith in
    let b3 : w / 2 ^ 24 % 256 ≡ a / 256 = omega arith in
    let b2 : w / 2 ^ 16 % 256 ≡ a % 256 = omega arith in
    let b1 : w / 2 ^ 8 % 256 ≡ m / 256 = omega arith in
    let b0 : w / 2 ^ 0 % 256 ≡ m % 256 = omega arith in
    low_bytes_lem 8 w ∙ (λ i. b7 i ∷ b6 i ∷ b5 i ∷ b4 i ∷ b3 i ∷ b2 i ∷ b1 i ∷ b0 i ∷ [])

-- ---- words one after the other

spelled-append : (v w : List ℕ) → spelled_words (v ++ w) ≡ spelled_words v ++ spelled_words w
unfolding spelled_words
spelled-append [] w = refl
spelled-append (x ∷ v) w = ap (λ (l : List ℕ). bytes 8 (word 64 x) ++ l) (spelled-append v w) ∙ sym (append_assoc (bytes 8 (word 64 x)) (spelled_words v) (spelled_words w))

length-spelled : (w : List ℕ) → length (spelled_words w) ≡ 8 * length w
unfolding spelled_words
length-spelled [] = refl
length-spelled (x ∷ w) = omega (arith, length-append (bytes 8 (word 64 x)) (spelled_words w), length-bytes 8 (word 64 x), length-spelled w)

-- Those before place i stand at the front, and what is behind them is as it was lent.
abbrev pub Stored : (words lent : List ℕ) → (i : ℕ) → (state : List ℕ) → Type 0
Stored words lent i state = state ≡ spelled_words (take i words) ++ drop (i * 8) lent

pub stored_turn : (words lent : List ℕ) (i : ℕ) {state new : List ℕ} → i < length words → Stored words lent i state
    → new ≡ take (i * 8) state ++ (bytes 8 (word 64 (get_or words i 0)) ++ drop 8 (drop (i * 8) state)) → Stored words lent (i + 1) new
unfolding spelled_words
stored_turn words lent i {state} inside stored put =
    let next : i * 8 + 8 ≡ (i + 1) * 8 = omega arith in
    put
    ∙ ap₂ (λ (f b : List ℕ). f ++ (w ++ b)) (ap (take (i * 8)) stored ∙ take_at (spelled_words (take i words)) _ (i * 8) long)
    (ap (drop 8) (ap (drop (i * 8)) stored ∙ drop_at (spelled_words (take i words)) _ (i * 8) long) ∙ drop-drop 8 (i * 8) lent ∙ ap (λ (n : ℕ). drop n lent) next)
    ∙ sym (append_assoc (spelled_words (take i words)) w (drop ((i + 1) * 8) lent))
    ∙ ap (λ (l : List ℕ). l ++ drop ((i + 1) * 8) lent)
    (sym (ap spelled_words (ap (λ (n : ℕ). take n words) (add-one i) ∙ take-suc words i 0 inside) ∙ spelled-append (take i words) (get_or words i 0 ∷ []) ∙ ap (λ (l : List ℕ). spelled_words (take i words) ++ l) (append-nil w)))
  where
    w : List ℕ
    w = bytes 8 (word 64 (get_or words i 0))

    long : length (spelled_words (take i words)) ≡ i * 8
    long = omega (arith, length-spelled (take i words), length-take-le i words (le_of_lt inside))

pub stored_all : (words lent : List ℕ) (i : ℕ) {state : List ℕ} → length words ≤ i → length lent ≡ 8 * length words → Stored words lent i state → state ≡ spelled_words words
stored_all words lent i all fits stored =
    let past : length lent ≤ i * 8 = omega arith in
    stored ∙ ap₂ ◌++◌ (ap spelled_words (take_all i words all)) (drop_of_length-le lent past) ∙ append-nil (spelled_words words)

-- The words of a stream are what is written of it.
pub stream_words : (x : Session) (c e : ℕ) → bytes 8 (word 64 c) ≡ (x.counts.kind ∷ x.counts.phase ∷ []) ++ (two_bytes x.counts.announced ++ (two_bytes x.counts.ad ++ two_bytes x.counts.message))
    → bytes 8 (word 64 e) ≡ number x.engine.edition ∷ spare
    → spelled_words (x.engine.registers.lfsr0 ∷ x.engine.registers.lfsr1 ∷ x.engine.registers.nfsr0 ∷ x.engine.registers.nfsr1 ∷ x.engine.tagger.accumulator ∷ x.engine.tagger.register ∷ c ∷ e ∷ [])
    ≡ written (stream_of x)
unfolding spelled_words written stream_of state_of generator_of authenticator_of
stream_words x c e counted marked =
    rw (bytes-append 8 8 (word 64 g.lfsr0) (word 64 g.lfsr1) (length-word 64 g.lfsr0), bytes-append 8 8 (word 64 g.nfsr0) (word 64 g.nfsr1) (length-word 64 g.nfsr0), counted, marked)
    (simp append_assoc)
  where
    g : Registers
    g = x.engine.registers
