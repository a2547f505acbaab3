-- What the entry points owe beside the walk of their code: the sizes that a passed check tells, the tag as a word, and the output.
-- Assumes nothing.
use mathlib.Core.Path.{◌≡◌, refl, sym, ap, ap₂, ◌∙◌, subst}
use mathlib.Core.Logic.{◌↔◌}
use mathlib.Core.Bool.{true, false}
use mathlib.Core.List.{List, [], ◌∷◌, ◌++◌}
use Prim.Native.Nat.{ℕ, ◌+◌, ◌-◌, ◌%◌, ◌^◌, ◌≤◌, ◌<◌}
use native.Mathlib.Omega.{arith}
use borrow.Author.Tests.{ltb-false}
use lib.Dec.{lit≤, ltb}
use lib.ListN.{length, take, drop}
use lib.Seq.{take_all}
use Rattle.bits.specs.Bytes.{Bytes, word, value, bits, bytes}
use Rattle.bits.proofs.Word.{length-word}
use Rattle.refusals.specs.Refusals.{Check, passed}
use Rattle.std.specs.Prelude.{Ok, Err}
use Rattle.refusals.specs.declared.Refusal.{Refusal}
use Rattle.refusals.specs.declared.Refusal.TheVariants.{TagDiffers}
use Rattle.refusals.specs.Outcome.{outcome}
use Rattle.refusals.proofs.LastRow.{settled_failed, settled-success}
use Rattle.tagged.proofs.Parts.{length-ciphertext_part, tag_part-bytes}
use Rattle.tagged.proofs.Entry.{sealed_output_lem, same_number, same_tag}
use Rattle.tagged.proofs.Entry as any_entry
use Rattle.preoutput.specs.Words.{generator_of}
use Rattle.machine.specs.declared.edition.Edition.{Edition}
use Rattle.machine.specs.declared.engine.Engine.{Engine}
use Rattle.machine.specs.Machine.{State, run, crypt, decipher}
use Rattle.machine.specs.Engine.{state_of}
use Rattle.strings.specs.Strings.{CryptsAll, with_keystream}
use Rattle.machine.proofs.Machine.{run-append}
use Rattle.strings.proofs.ByteStrings.{crypted-bytes}
use Rattle.startup.specs.Editions.{bits_in, bytes_in, initialised}
use Rattle.payload.specs.Sizes.{tag_size}
use Rattle.payload.specs.AuthenticatedString.{header, authenticated}
use Rattle.payload.specs.Payload.{begun, ciphertext, deciphered, tag, payload, ciphertext_part, tag_part, cipher}
use Rattle.payload.proofs.Payload.{length_deciphered_lem, deciphered-bits}
use Rattle.payload.proofs.Sound.{sound, parts}
use Rattle.payload.proofs.Begun.{begun-edition, after-edition}
use Rattle.limits.specs.Limits.{message_limit}
use Rattle.grain128aead.specs.Sizes.{ad_limit}
use Rattle.grain128aead.specs.Calls.{sealed, recovered, opened}
use Rattle.checks.proofs.Rows.{NoneApplies}
use Rattle.grain128aead.proofs.Settled.{sealing_judgement, opening_judgement, passed_clear, sealed-settled, opened-settled}
use Rattle.grain128aead.proofs.Demand2.{Authentic}

-- The tag, from the machine where the message begins.
module _ (ed : Edition) (key nonce ad message : List ℕ) where
  pub tag-run : (run (run (begun ed key nonce ad) (bits_in ed message)) (true ∷ [])).authenticator.accumulator ≡ (run (initialised ed key nonce) (authenticated ed ad message)).authenticator.accumulator
  unfolding begun authenticated
  tag-run =
      ap (λ (st : State). st.authenticator.accumulator)
      (ap (λ (st : State). run st (true ∷ [])) (sym (run-append (initialised ed key nonce) (header ed ad) (bits_in ed message)))
      ∙ sym (run-append (initialised ed key nonce) (header ed ad ++ bits_in ed message) (true ∷ [])))

  pub tag_word : (a : Engine) (t : ℕ) → state_of a ≡ run (begun ed key nonce ad) (bits_in ed message)
      → bytes 8 (word 64 t) ≡ bytes_in a.edition 8 (run (state_of a) (true ∷ [])).authenticator.accumulator → bytes 8 (word 64 t) ≡ tag ed key nonce ad message
  unfolding tag
  tag_word a t e h =
      h ∙ ap₂ (λ (v : Edition) (st : State). bytes_in v 8 (run st (true ∷ [])).authenticator.accumulator) (after-edition ed key nonce ad (bits_in ed message) a e) e
      ∙ ap (bytes_in ed 8) tag-run

-- ---- sealing

pub record SealChecked (key nonce ad message lent : List ℕ) (c : Check) : Type 0 where
  pub checked : c ≡ sealing_judgement key nonce ad message lent

module _ {key nonce ad message lent : List ℕ} {c : Check} (checks : SealChecked key nonce ad message lent c) where
  pub seal_failed : (ed : Edition) {r : Refusal} → c ≡ Err r → outcome (Err r) lent ≡ sealed ed key nonce ad message lent
  seal_failed ed e = settled_failed (sealing_judgement key nonce ad message lent) (payload ed key nonce ad message) lent (sealed-settled ed key nonce ad message lent) (sym checks.checked ∙ e)

  module _ (e : c ≡ passed) where
    pub seal_clear : NoneApplies ad_limit key nonce ad (ltb message_limit (length message)) false (ltb (length lent) (length message + tag_size)) false
    seal_clear = passed_clear key nonce ad _ _ _ (sym checks.checked ∙ e)

    pub seal_room : length message + tag_size ≤ length lent
    seal_room = ltb-false (length lent) (length message + tag_size) seal_clear.room

    pub seal_passed : (ed : Edition) (b done : Engine) (t : ℕ) {out written : List ℕ} → state_of b ≡ begun ed key nonce ad → CryptsAll b.edition true true (state_of b) (take (length lent) message) lent out done
        → bytes 8 (word 64 t) ≡ bytes_in done.edition 8 (run (state_of done) (true ∷ [])).authenticator.accumulator
        → written ≡ take (length message) out ++ (bytes 8 (word 64 t) ++ drop 8 (drop (length message) out))
        → outcome (Ok (length message + tag_size)) written ≡ sealed ed key nonce ad message lent
    unfolding ciphertext payload
    seal_passed ed b done t {out} {written} began crypted tagged stored =
        sealed_output_lem (cipher ed key nonce ad) (sound ed key nonce ad) message lent out written
        (whole.written ∙ ap (λ (st : State). bytes_in ed (length message) (crypt true st (bits_in ed message)) ++ drop (length message) lent) began)
        (stored ∙ ap (λ (s : List ℕ). take (length message) out ++ (s ++ drop 8 (drop (length message) out))) (tag_word ed key nonce ad message done t (whole.engine ∙ ap (λ (st : State). run st (bits_in ed message)) began) tagged))
        ∙ settled-success (sealing_judgement key nonce ad message lent) (payload ed key nonce ad message) lent (sealed-settled ed key nonce ad message lent) (sym checks.checked ∙ e)
      where
        whole : CryptsAll ed true true (state_of b) message lent out done
        whole =
            subst (λ (v : Edition). CryptsAll v true true (state_of b) message lent out done) (begun-edition ed key nonce ad b began)
            (rw (take_all (length lent) message (omega (arith, seal_room))) at crypted)

-- ---- opening

pub record OpenChecked (key nonce ad input lent : List ℕ) (c : Check) : Type 0 where
  pub checked : c ≡ opening_judgement key nonce ad input lent

-- The two words that opening compares: `r`, of the computed tag, and `n`, of the received one.
pub record Compared (ed : Edition) (key nonce ad input : List ℕ) (b done : Engine) (r n : ℕ) : Type 0 where
  pub is_bytes : Bytes input
  pub began : state_of b ≡ begun ed key nonce ad
  pub ran : state_of done ≡ run (state_of b) (decipher (state_of b) (bits_in b.edition (ciphertext_part input)))
  pub tagged : bytes 8 (word 64 r) ≡ bytes_in done.edition 8 (run (state_of done) (true ∷ [])).authenticator.accumulator
  pub small : r < 2 ^ 64
  pub spelled : n ≡ value (bits (tag_part input)) % 2 ^ 64

module _ {key nonce ad input lent : List ℕ} {c : Check} (checks : OpenChecked key nonce ad input lent c) where
  pub open_failed : (ed : Edition) {r : Refusal} → c ≡ Err r → outcome (Err r) lent ≡ opened ed key nonce ad input lent
  open_failed ed e = any_entry.open_failed (cipher ed key nonce ad) input lent _ _ (opened-settled ed key nonce ad input lent) (sym checks.checked ∙ e)

  module _ (e : c ≡ passed) where
    pub open_clear : NoneApplies ad_limit key nonce ad (ltb (message_limit + tag_size) (length input)) (ltb (length input) tag_size) (ltb (length lent) (length input - tag_size)) false
    open_clear = passed_clear key nonce ad _ _ _ (sym checks.checked ∙ e)

    pub open_reaches : tag_size ≤ length input
    open_reaches = ltb-false (length input) tag_size open_clear.reaches

    -- The computed tag, from the machine after the message that the input hides.
    module _ {ed : Edition} {b done : Engine} {r n : ℕ} (words : Compared ed key nonce ad input b done r n) where
      edition : b.edition ≡ ed
      edition = begun-edition ed key nonce ad b words.began

      computed : bytes 8 (word 64 r) ≡ tag ed key nonce ad (recovered ed key nonce ad input)
      computed =
          tag_word ed key nonce ad (recovered ed key nonce ad input) done r
          (words.ran ∙ ap₂ (λ (v : Edition) (st : State). run st (decipher st (bits_in v (ciphertext_part input)))) edition words.began ∙ ap (run (begun ed key nonce ad)) (sym (deciphered-bits ed key nonce ad (ciphertext_part input)))) words.tagged

      -- The two words are the same number exactly when the tag is the recomputed one.
      same-words : (r ≡ n) ↔ Authentic ed key nonce ad input
      same-words =
          let whole = (parts input).whole open_reaches in
          let is_bytes = tag_part-bytes tag_size input words.is_bytes in (
            λ same. same_number tag_size (tag_part input) (word 64 r) r n (lit≤ tt) whole is_bytes (length-word 64 r) words.small words.spelled refl same ∙ computed,
            λ authentic. same_tag tag_size (tag_part input) (word 64 r) r n (lit≤ tt) whole is_bytes (length-word 64 r) words.small words.spelled refl (authentic ∙ sym computed),
          )

      pub open_passed : {out : List ℕ} → r ≡ n → out ≡ with_keystream ed 2 (generator_of b.registers) (take (length lent) (ciphertext_part input)) ++ drop (length (take (length lent) (ciphertext_part input))) lent
          → outcome (Ok (length input - tag_size)) out ≡ opened ed key nonce ad input lent
      unfolding deciphered state_of
      open_passed {out} same added =
          any_entry.open_passed (cipher ed key nonce ad) input lent _ _ (opened-settled ed key nonce ad input lent) (sym checks.checked ∙ e) (sound ed key nonce ad) (same-words.0 same)
          (whole ∙ ap (λ (l : List ℕ). l ++ drop (length part) lent) (sym (crypted-bytes ed (state_of b) false part))
          ∙ ap₂ (λ (st : State) (k : ℕ). bytes_in ed (length part) (decipher st (bits_in ed part)) ++ drop k lent) words.began (sym (length_deciphered_lem ed key nonce ad part)))
        where
          part : List ℕ
          part = ciphertext_part input

          room : length part ≤ length lent
          room = omega (arith, length-ciphertext_part tag_size input open_reaches, ltb-false (length lent) (length input - tag_size) open_clear.room)

          whole : out ≡ with_keystream ed 2 (generator_of b.registers) part ++ drop (length part) lent
          whole = rw (take_all (length lent) part room) at added

      pub open_differs : (r ≡ n → ⊥) → outcome (Err TagDiffers) lent ≡ opened ed key nonce ad input lent
      open_differs differs =
          any_entry.open_differs (cipher ed key nonce ad) input lent _ _ (opened-settled ed key nonce ad input lent) (sym checks.checked ∙ e) (λ authentic. differs (same-words.1 authentic))
