-- What the entry points owe beside the walk of their code: the machine whose words are cut, the tag as a number, and the output.
-- Assumes nothing.
use mathlib.Core.Path.{◌≡◌, sym, ap, ap₂, ◌∙◌, subst}
use mathlib.Core.Bool.{Bool, true, false}
use mathlib.Core.List.{List, [], ◌∷◌, ◌++◌}
use Prim.Native.Nat.{ℕ, ◌+◌, ◌-◌, ◌*◌, ◌%◌, ◌^◌, ◌≤◌}
use native.Mathlib.Omega.{arith}
use borrow.Author.Tests.{ltb-false}
use lib.Dec.{lit<, ltb}
use lib.ListN.{length, take, drop}
use lib.Seq.{take_all, drop-drop}
use Rattle.bits.specs.Bytes.{Bytes, word, value}
use Rattle.bits.specs.Bytes as plain
use Rattle.bits.specs.Strings.{zeros}
use Rattle.refusals.specs.Refusals.{Check, among, after, check, passed}
use Rattle.std.specs.Prelude.{Ok, Err}
use Rattle.refusals.specs.declared.Refusal.{Refusal}
use Rattle.refusals.specs.declared.Refusal.TheVariants.{TagDiffers}
use Rattle.refusals.specs.Outcome.{outcome, settled, judged}
use Rattle.refusals.proofs.LastRow.{settled_failed, settled-success}
use Rattle.limits.specs.Limits.{message_limit}
use Rattle.mode_checks.specs.Order.{unauthenticated}
use Rattle.mode_checks.proofs.Rows.{AuthenticatedClear}
use Rattle.generators.specs.Generator.{Generator}
use Rattle.preoutput.specs.Words.{generator_of}
use Rattle.authenticator.specs.Cutting as authenticator
use Rattle.machine.specs.declared.edition.Edition.{Edition}
use Rattle.machine.specs.declared.edition.Edition.TheVariants.{First}
use Rattle.machine.specs.declared.engine.Engine.{Engine}
use Rattle.machine.specs.Machine.{State, run, crypt, decipher}
use Rattle.machine.specs.Engine.{state_of}
use Rattle.machine.specs.Laws as machine
use Rattle.machine.proofs.Machine.{run-append}
use Rattle.machine.proofs.Cutting.{engine_cutting}
use Rattle.startup.specs.Editions.{ordered, bits_in, bytes_in}
use Rattle.strings.specs.Strings.{CryptsAll, with_keystream}
use Rattle.strings.proofs.OverBytes.{crypt_bytes}
use Rattle.strings.proofs.ByteStrings.{bits_in-crypt_bytes, crypted-bytes}
use Rattle.tagged.specs.Payload.{ciphertext_part, tag_part}
use Rattle.tagged.proofs.Parts.{parts, tag_part-bytes, length-ciphertext_part}
use Rattle.tagged.proofs.Opening.{Authentic}
use Rattle.tagged.proofs.Entry as entry
use Rattle.untagged.proofs.Crypting as untagged
use Rattle.grain128a.specs.Bits.{bits, bytes}
use Rattle.grain128a.specs.StartUp.{warmed, filled, initialised}
use Rattle.grain128a.specs.Payload.{authenticated, ciphertext, deciphered, tag_size, pad, tag_bits, tag, cipher, payload}
use Rattle.grain128a.specs.Payload as grain128a
use Rattle.grain128a.specs.TagNumber.{TagNumber}
use Rattle.grain128a.specs.Calls.{sealed, recovered, tag_differs, opened, crypting_rows, crypted}
use Rattle.grain128a.specs.Demand2.{Legal, LegalUnauthenticated}
use Rattle.grain128a.proofs.Payload.{sound, length_padded}
use Rattle.grain128a.proofs.Settled.{sealing_judgement, opening_judgement, sealed-settled, opened-settled, passed_clear}
use Rattle.grain128a.proofs.Demand2.{sealing_fits, crypting_fits}
use Rattle.grain128a.proofs.Twice.{added, length-added}

-- The machine where the message begins, of whose words 32 places are meant.
pub record Began (key nonce : List ℕ) (b : Engine) : Type 0 where
  pub cuts : machine.cut 32 (state_of b) ≡ initialised key nonce

module _ {key nonce : List ℕ} {b : Engine} (began : Began key nonce b) where
  order : b.edition ≡ First
  unfolding machine.cut state_of initialised filled
  order = ap (λ (st : State). st.edition) began.cuts

  generator : generator_of b.registers ≡ (initialised key nonce).generator
  unfolding machine.cut state_of
  generator = ap (λ (st : State). st.generator) began.cuts

  crypts : (sealing : Bool) (s : List Bool) → crypt sealing (state_of b) s ≡ crypt sealing (initialised key nonce) s
  crypts sealing s = sym ((engine_cutting b 32 (lit< tt) s).crypt sealing) ∙ ap (λ (st : State). crypt sealing st s) began.cuts

  -- The last 32 places of the accumulator's word after a string are the accumulator after it.
  accumulated : (s : List Bool) → drop 32 (run (state_of b) s).authenticator.accumulator ≡ (run (initialised key nonce) s).authenticator.accumulator
  unfolding machine.cut authenticator.cut
  accumulated s = ap (λ (st : State). st.authenticator.accumulator) ((engine_cutting b 32 (lit< tt) s).run ∙ ap (λ (st : State). run st s) began.cuts)

  -- The number that is the tag of a message, from the machine after it.
  pub tag-number : (w : ℕ) (message : List ℕ) (done : Engine) {r : ℕ} → w ≤ 32 → state_of done ≡ run (state_of b) (bits message)
      → TagNumber w (run (state_of done) (true ∷ [])).authenticator.accumulator r → word (8 * tag_size w) r ≡ tag_bits w key nonce message ++ zeros (pad w)
  unfolding tag_bits authenticated
  tag-number w message done few ran t =
      t.tagged
      ∙ ap (λ (st : State). drop (64 - w) (run st (true ∷ [])).authenticator.accumulator ++ zeros (pad w)) ran
      ∙ ap (λ (st : State). drop (64 - w) st.authenticator.accumulator ++ zeros (pad w)) (sym (run-append (state_of b) (bits message) (true ∷ [])))
      ∙ ap (λ (s : List Bool). s ++ zeros (pad w))
      (ap (λ (k : ℕ). drop k (run (state_of b) (bits message ++ (true ∷ []))).authenticator.accumulator) both
      ∙ sym (drop-drop (32 - w) 32 (run (state_of b) (bits message ++ (true ∷ []))).authenticator.accumulator)
      ∙ ap (drop (32 - w)) (accumulated (bits message ++ (true ∷ []))))
    where
      both : 64 - w ≡ 32 + (32 - w)
      both = omega (arith, few)

-- ---- sealing

pub record SealChecked (w : ℕ) (key nonce message lent : List ℕ) (c : Check) : Type 0 where
  pub checked : c ≡ sealing_judgement w key nonce message lent

module _ {w : ℕ} {key nonce message lent : List ℕ} {c : Check} (checks : SealChecked w key nonce message lent c) where
  pub seal_failed : {r : Refusal} → c ≡ Err r → outcome (Err r) lent ≡ sealed w key nonce message lent
  seal_failed e = settled_failed (sealing_judgement w key nonce message lent) (payload w key nonce message) lent (sealed-settled w key nonce message lent) (sym checks.checked ∙ e)

  module _ (e : c ≡ passed) where
    pub seal_legal : Legal w key nonce message × (length message + tag_size w ≤ length lent)
    seal_legal = sealing_fits w key nonce message lent (sym checks.checked ∙ e)

    pub seal_passed : {b done : Engine} {t : ℕ} {out written : List ℕ} → Began key nonce b
        → CryptsAll b.edition true true (state_of b) (take (length lent) message) lent out done
        → TagNumber w (run (state_of done) (true ∷ [])).authenticator.accumulator t
        → written ≡ take (length message) out ++ (plain.bytes (tag_size w) (word (8 * tag_size w) t) ++ drop (tag_size w) (drop (length message) out))
        → outcome (Ok (length message + tag_size w)) written ≡ sealed w key nonce message lent
    unfolding cipher payload ciphertext tag bytes_in ordered
    seal_passed {b} {done} {t} {out} {written} began crypted tagged stored =
        entry.sealed_output_lem (cipher w key nonce) (sound w key nonce) message lent out written
        (whole.written ∙ ap (λ (s : List Bool). bytes (length message) s ++ drop (length message) lent) (crypts began true (bits message)))
        (stored ∙ ap (λ (s : List Bool). take (length message) out ++ (plain.bytes (tag_size w) s ++ drop (tag_size w) (drop (length message) out))) (tag-number began w message done seal_legal.0.tag_fits whole.engine tagged))
        ∙ settled-success (sealing_judgement w key nonce message lent) (payload w key nonce message) lent (sealed-settled w key nonce message lent) (sym checks.checked ∙ e)
      where
        whole : CryptsAll First true true (state_of b) message lent out done
        whole =
            subst (λ (v : Edition). CryptsAll v true true (state_of b) message lent out done) (order began)
            (rw (take_all (length lent) message (omega (arith, seal_legal.1))) at crypted)

-- ---- opening

pub record OpenChecked (w : ℕ) (key nonce input lent : List ℕ) (c : Check) : Type 0 where
  pub checked : c ≡ opening_judgement w key nonce input lent

-- The two words that opening compares: `r`, of the computed tag, and `n`, of the received one.
pub record Compared (w : ℕ) (key nonce input : List ℕ) (b done : Engine) (r n : ℕ) : Type 0 where
  pub is_bytes : Bytes input
  pub began : Began key nonce b
  pub ran : state_of done ≡ run (state_of b) (decipher (state_of b) (bits_in b.edition (ciphertext_part (tag_size w) input)))
  pub tagged : TagNumber w (run (state_of done) (true ∷ [])).authenticator.accumulator r
  pub spelled : n ≡ value (plain.bits (tag_part (tag_size w) input)) % 2 ^ 64

module _ {w : ℕ} {key nonce input lent : List ℕ} {c : Check} (checks : OpenChecked w key nonce input lent c) where
  settles : opened w key nonce input lent ≡ settled (after c TagDiffers (tag_differs w key nonce input)) (recovered w key nonce input) lent
  settles =
      opened-settled w key nonce input lent
      ∙ ap (λ (d : Check). settled (after d TagDiffers (tag_differs w key nonce input)) (recovered w key nonce input) lent) (sym checks.checked)

  pub open_failed : {r : Refusal} → c ≡ Err r → outcome (Err r) lent ≡ opened w key nonce input lent
  open_failed = entry.open_failed (cipher w key nonce) input lent c (opened w key nonce input lent) settles

  module _ (e : c ≡ passed) where
    pub open_clear : AuthenticatedClear key nonce w (ltb (message_limit + tag_size w) (length input)) (ltb (length input) (tag_size w)) (ltb (length lent) (length input - tag_size w)) false
    open_clear = passed_clear w key nonce _ _ _ (sym checks.checked ∙ e)

    pub open_reaches : tag_size w ≤ length input
    open_reaches = ltb-false (length input) (tag_size w) open_clear.reaches

    module _ {b done : Engine} {r n : ℕ} (words : Compared w key nonce input b done r n) where
      abbrev pub part : List ℕ
      part = ciphertext_part (tag_size w) input

      -- The machine is the one after the message that the input hides.
      after-message : state_of done ≡ run (state_of b) (bits (recovered w key nonce input))
      unfolding cipher deciphered crypt_bytes
      after-message =
          words.ran
          ∙ ap (λ (v : Edition). run (state_of b) (decipher (state_of b) (bits_in v part))) (order words.began)
          ∙ ap (run (state_of b)) (crypts words.began false (bits part) ∙ sym (bits_in-crypt_bytes First (initialised key nonce) false part))

      computed : word (8 * tag_size w) r ≡ tag_bits w key nonce (recovered w key nonce input) ++ zeros (pad w)
      computed = tag-number words.began w (recovered w key nonce input) done open_clear.tag_fits after-message words.tagged

      -- The tag is the recomputed one exactly when the words are the same.
      same : (r ≡ n → Authentic (cipher w key nonce) input) × (Authentic (cipher w key nonce) input → r ≡ n)
      unfolding cipher tag bytes_in ordered
      same =
          let k = open_clear.common.key_sized in
          let m = open_clear.common.nonce_sized in
          let at = tag_part (tag_size w) input in
          let long = length_padded w key nonce k m open_clear.tag_fits (recovered w key nonce input) in
          let most : tag_size w ≤ 8 = omega (arith, open_clear.tag_fits) in (
            entry.same_number (tag_size w) at _ r n most ((parts (tag_size w) input).whole open_reaches) (tag_part-bytes (tag_size w) input words.is_bytes) long words.tagged.small words.spelled computed,
            entry.same_tag (tag_size w) at _ r n most ((parts (tag_size w) input).whole open_reaches) (tag_part-bytes (tag_size w) input words.is_bytes) long words.tagged.small words.spelled computed,
          )

      pub open_passed : {out : List ℕ} → r ≡ n → out ≡ with_keystream First 2 (generator_of b.registers) (take (length lent) part) ++ drop (length (take (length lent) part)) lent
          → outcome (Ok (length input - tag_size w)) out ≡ opened w key nonce input lent
      unfolding cipher deciphered
      open_passed {out} agrees added =
          entry.open_passed (cipher w key nonce) input lent c (opened w key nonce input lent) settles e (sound w key nonce) (same.0 agrees)
          (whole
          ∙ ap₂ (λ (s : List ℕ) (k : ℕ). s ++ drop k lent)
          (ap (λ (g : Generator Bool). with_keystream First 2 g part) (generator words.began) ∙ sym (crypted-bytes First (initialised key nonce) false part))
          (sym ((sound w key nonce).length_deciphered part)))
        where
          whole : out ≡ with_keystream First 2 (generator_of b.registers) part ++ drop (length part) lent
          whole = rw (take_all (length lent) part (omega (arith, length-ciphertext_part (tag_size w) input open_reaches, ltb-false (length lent) (length input - tag_size w) open_clear.room))) at added

      pub open_differs : ¬ (r ≡ n) → outcome (Err TagDiffers) lent ≡ opened w key nonce input lent
      open_differs differs = entry.open_differs (cipher w key nonce) input lent c (opened w key nonce input lent) settles e (λ a. differs (same.1 a))

-- ---- without authentication

pub record CryptChecked (key nonce message lent : List ℕ) (c : Check) : Type 0 where
  pub checked : c ≡ check unauthenticated (among (crypting_rows key nonce message lent))

module _ {key nonce message lent : List ℕ} {c : Check} (checks : CryptChecked key nonce message lent c) where
  settles_crypt : crypted key nonce message lent ≡ settled c (grain128a.with_keystream key nonce message) lent
  unfolding crypted judged
  settles_crypt = ap (λ (d : Check). settled d (grain128a.with_keystream key nonce message) lent) (sym checks.checked)

  pub crypt_failed : {r : Refusal} → c ≡ Err r → outcome (Err r) lent ≡ crypted key nonce message lent
  crypt_failed e = settled_failed c (grain128a.with_keystream key nonce message) lent settles_crypt e

  module _ (e : c ≡ passed) where
    pub crypt-legal : LegalUnauthenticated key nonce message × (length message ≤ length lent)
    crypt-legal = crypting_fits key nonce message lent (sym checks.checked ∙ e)

    pub crypt_passed : {g : Generator Bool} {out : List ℕ} → g ≡ warmed key nonce → out ≡ with_keystream First 1 g (take (length lent) message) ++ drop (length (take (length lent) message)) lent
        → outcome (Ok (length message)) out ≡ crypted key nonce message lent
    crypt_passed {g} {out} warm written =
        untagged.crypted-output (grain128a.with_keystream key nonce) (length-added key nonce) message lent c (crypted key nonce message lent) settles_crypt e
        (whole ∙ ap (λ (t : List ℕ). t ++ drop (length message) lent) (ap (λ (h : Generator Bool). with_keystream First 1 h message) warm ∙ added key nonce message))
      where
        whole : out ≡ with_keystream First 1 g message ++ drop (length message) lent
        whole = rw (take_all (length lent) message crypt-legal.1) at written
