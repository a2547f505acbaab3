-- A stream read from its bytes: the machine from its words, and the spare bytes from the number that they spell.
-- Assumes nothing.
use mathlib.Core.Path.{◌≡◌, refl, sym, ap, ap₂, ◌∙◌}
use mathlib.Core.Bool.{Bool, true, false, true≢false}
use mathlib.Core.List.{List, ◌++◌}
use Prim.Native.Nat.{ℕ, ◌+◌, ◌*◌, ◌%◌, ◌^◌}
use native.Mathlib.Omega.{arith}
use borrow.Author.Tests.{eqb-true, eq-eqb}
use lib.Dec.{eqb}
use lib.ListN.{length, take, drop}
use lib.Seq.{take-add, drop-drop}
use Rattle.bits.specs.Bytes.{Bytes, word, value, bits, bytes, same}
use Rattle.bits.proofs.Packing.{bits-append, bits_injective, bytes_are_bytes, same_equal, equal_same}
use Rattle.bits.proofs.Spelling.{spelled}
use Rattle.preoutput.specs.Words.{generator_of}
use Rattle.authenticator.specs.Words.{authenticator_of}
use Rattle.machine.specs.declared.edition.Edition.{Edition}
use Rattle.machine.specs.Engine.{state_of}
use Rattle.stream_state.specs.Layout.{machine_at, spare}

-- Two words that follow one another.
two_words : (s : List ℕ) (k a b : ℕ) → word 64 a ≡ bits (take 8 (drop k s)) → word 64 b ≡ bits (take 8 (drop (k + 8) s)) → word 64 a ++ word 64 b ≡ bits (take 16 (drop k s))
two_words s k a b first second =
    ap₂ ◌++◌ first (second ∙ ap (λ (t : List ℕ). bits (take 8 t)) (sym (drop-drop 8 k s)))
    ∙ sym (ap bits (take-add 8 8 (drop k s)) ∙ bits-append (take 8 (drop k s)) (take 8 (drop 8 (drop k s))))

pub machine-words : (e : Edition) (s : List ℕ) (l0 l1 n0 n1 a r : ℕ) → word 64 l0 ≡ bits (take 8 (drop 0 s)) → word 64 l1 ≡ bits (take 8 (drop 8 s))
    → word 64 n0 ≡ bits (take 8 (drop 16 s)) → word 64 n1 ≡ bits (take 8 (drop 24 s)) → word 64 a ≡ bits (take 8 (drop 32 s)) → word 64 r ≡ bits (take 8 (drop 40 s))
    → state_of record {
      edition = e;
      registers = record { lfsr0 = l0; lfsr1 = l1; nfsr0 = n0; nfsr1 = n1 };
      tagger = record { accumulator = a; register = r };
    }
    ≡ machine_at e s
unfolding state_of generator_of authenticator_of machine_at
machine-words e s l0 l1 n0 n1 a r p q t u v w = λ i. record {
  edition = e;
  generator = record { lfsr = two_words s 0 l0 l1 p q i; nfsr = two_words s 16 n0 n1 t u i };
  authenticator = record { accumulator = v i; register = w i };
}

-- Seven bytes spell zero exactly when each of them is zero.
pub spare-zero : (t : List ℕ) (n : ℕ) → length t ≡ 7 → Bytes t → n ≡ value (bits t) % 2 ^ 64 → eqb n 0 ≡ same t spare
unfolding value word bits
spare-zero t n seven is_bytes spells = go (eqb n 0) (same t spare) refl refl
  where
    spare-bytes : Bytes spare
    spare-bytes = unfold bytes value word in (bytes_are_bytes 7 (word 56 0))

    zero_bits : n ≡ 0 → bits t ≡ bits spare
    zero_bits z =
        sym (ap (λ (k : ℕ). word k n) (ap (λ (k : ℕ). 8 * k) (sym seven)) ∙ spelled t n (omega arith) spells) ∙ ap (word 56) z

    go : (b d : Bool) → eqb n 0 ≡ b → same t spare ≡ d → b ≡ d
    go true true h k = refl
    go false false h k = refl
    go true false h k = absurd (true≢false (sym (equal_same spare) ∙ sym (ap (λ (u : List ℕ). same u spare) (bits_injective t spare is_bytes spare-bytes (zero_bits (eqb-true n 0 h)))) ∙ k))
    go false true h k = absurd (true≢false (sym (eq-eqb n 0 (spells ∙ ap (λ (u : List ℕ). value (bits u) % 2 ^ 64) (same_equal t spare k))) ∙ h))
