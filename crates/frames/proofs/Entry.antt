-- What the calls owe beside the walk of their code: what a passed check tells, and the field as it is written.
-- Assumes nothing.
use mathlib.Core.Path.{◌≡◌, refl, sym, ap, ap₂, ◌∙◌}
use mathlib.Core.Bool.{false}
use mathlib.Core.List.{List, ◌∷◌, ◌++◌, append_assoc, append-nil}
use Prim.Native.Nat.{ℕ, zero, suc, ◌+◌, ◌-◌, ◌*◌, ◌%◌, ◌^◌, ◌≤◌}
use native.Mathlib.Nat.{le_of_eq, zero-div}
use native.Mathlib.Omega.{arith}
use lib.ListN.{length, take, drop, set, replicate, length-set, drop_of_length-le}
use lib.Seq.{take_at, drop_at, set_split, drop-drop}
use borrow.Rule.Slice.PartMut.{mid_of, put_mid, same_len_mid, mid_len}
use Rattle.bits.specs.Bytes.{word, bytes}
use Rattle.bits.proofs.Spelling.{bytes-word-cons}
use Rattle.refusals.specs.Refusals.{Check, Answer, among, check, passed}
use Rattle.std.specs.Prelude.{is_ok, IsOk, Ok, Err}
use Rattle.refusals.specs.declared.Refusal.{Refusal}
use Rattle.refusals.specs.Outcome.{Outcome, outcome, settled, judged, success}
use Rattle.refusals.proofs.Demand1.{decides}
use Rattle.tagged.proofs.Entry.{open_failed}
use Rattle.checks.proofs.Demand1.{none_at_all}
use Rattle.machine.specs.declared.edition.Edition.{Edition}
use Rattle.payload.specs.Payload.{payload}
use Rattle.payload.specs.Payload as payloads
use Rattle.payload.proofs.Payload.{length-payload}
use Rattle.grain128aead.specs.Calls as cipher
use Rattle.grain128aead.proofs.Demand2.{sealing}
use Rattle.length_codes.specs.LengthCodes.{coded_length}
use Rattle.frame_checks.specs.Layout.{field_code, field_size, announced, sealed_part}
use Rattle.frame_checks.specs.Order as order
use Rattle.frame_checks.proofs.FieldCodes.{field_codes}
use Rattle.frame_checks.proofs.Rows.{MakingClear, making_clear, ReadingClear, tabled}
use Rattle.frames.specs.Field.{frame_ad, data_field}
use Rattle.frames.specs.Calls.{making_rows, made, recovered, wrong_tag, read}
use Rattle.frames.proofs.Field.{ad_fits_lem, message_fits_lem, sized}
use Rattle.frames.proofs.Settled.{judgement, passed_clear, read-settled, read_opened}
use Rattle.frames.proofs.Demand2.{making}

-- The bytes of zero are zeros.
pub spelled-zero : (n : ℕ) → bytes n (word (8 * n) 0) ≡ replicate n 0
unfolding bytes
spelled-zero zero = refl
spelled-zero (suc n) = bytes-word-cons n 0 ∙ ap₂ (λ (b : ℕ) (t : List ℕ). b % 256 ∷ t) (zero-div (2 ^ (8 * n))) (spelled-zero n)

-- A byte and a part written keep the output's length.
pub set_room : (l : List ℕ) (a : ℕ) {n : ℕ} → n ≤ length l → n ≤ length (set l 0 a)
set_room l a h = omega (arith, length-set l 0 a)

pub part_kept : (l : List ℕ) (a k : ℕ) (p : List ℕ) → length p ≡ length (mid_of 1 k (set l 0 a)) → length (put_mid 1 k (set l 0 a) p) ≡ length l
part_kept l a k p h = same_len_mid 1 k (set l 0 a) p h ∙ length-set l 0 a

-- M, then the payload, then zeros, each written behind the one before.
module _ (m size : ℕ) (p lent : List ℕ) (long : length p ≡ m + 8) (holds : m + 9 ≤ size) (room : size ≤ length lent) where
  with-payload : put_mid 1 (m + 9 - 1) (set lent 0 m) p ≡ (m ∷ p) ++ drop (m + 9) lent
  with-payload =
      let next : 1 + (m + 9 - 1) ≡ m + 9 = omega arith in
      ap (λ (t : List ℕ). put_mid 1 (m + 9 - 1) t p) (set_split lent 0 m (omega arith))
      ∙ ap (λ (t : List ℕ). (m ∷ p) ++ t) (drop-drop (m + 9 - 1) 1 lent ∙ ap (λ (k : ℕ). drop k lent) next)

  with-zeros : put_mid (m + 9) (size - (m + 9)) (put_mid 1 (m + 9 - 1) (set lent 0 m) p) (replicate (size - (m + 9)) 0) ≡ ((m ∷ p) ++ replicate (size - (m + 9)) 0) ++ drop size lent
  with-zeros =
      let k = size - (m + 9) in
      let front : length (m ∷ p) ≡ m + 9 = omega (arith, long) in
      let whole : m + 9 + (size - (m + 9)) ≡ size = omega arith in
      ap₂ (λ (x y : List ℕ). x ++ (replicate k 0 ++ drop k y))
      (ap (take (m + 9)) with-payload ∙ take_at (m ∷ p) (drop (m + 9) lent) (m + 9) front)
      (ap (drop (m + 9)) with-payload ∙ drop_at (m ∷ p) (drop (m + 9) lent) (m + 9) front)
      ∙ ap (λ (t : List ℕ). (m ∷ p) ++ (replicate k 0 ++ t)) (drop-drop k (m + 9) lent ∙ ap (λ (n : ℕ). drop n lent) whole)
      ∙ sym (append_assoc (m ∷ p) (replicate k 0) (drop size lent))

-- ---- making

pub record MakeChecked (key nonce : List ℕ) (identifier : ℕ) (message lent : List ℕ) (c : Check) : Type 0 where
  pub checked : c ≡ check order.making (among (making_rows key nonce identifier message lent))

module _ {key nonce : List ℕ} {identifier : ℕ} {message lent : List ℕ} {c : Check} (checks : MakeChecked key nonce identifier message lent c) where
  pub make_failed : (e : Edition) {r : Refusal} → c ≡ Err r → outcome (Err r) lent ≡ made e key nonce identifier message lent
  unfolding made judged settled
  make_failed e h = sym (ap (λ (d : Check). settled d (data_field e key nonce identifier message) lent) (sym checks.checked ∙ h))

  module _ (passed : c ≡ passed) where
    pub make_clear : MakingClear key nonce identifier (length message) (length lent)
    make_clear =
        making_clear key nonce identifier (length message) (length lent)
        (none_at_all order.making (making_rows key nonce identifier message lent) (tabled.of_making key nonce identifier (length message) (length lent))
        ((decides (among (making_rows key nonce identifier message lent)) order.making).passes.0 (sym checks.checked ∙ passed)))

    -- The field has room for M and the tag, and the output for the field.
    pub make_holds : length message + 9 ≤ field_size (length message)
    make_holds = field_codes.holds (length message) make_clear.message_fits

    -- Sealing to a part of just the payload's length succeeds, and writes the payload.
    pub seals : (e : Edition) (part : List ℕ) {answer : Answer} {out : List ℕ} → length part ≡ length message + 8
        → outcome answer out ≡ cipher.sealed e key nonce (frame_ad identifier (field_code (length message))) message part
        → outcome answer out ≡ success (payload e key nonce (frame_ad identifier (field_code (length message))) message) part
    seals e part long is =
        is ∙ (sealing e key nonce (frame_ad identifier (field_code (length message))) message part).seals
        record {
          key_sized = make_clear.common.key_sized;
          nonce_sized = make_clear.common.nonce_sized;
          key_not_blank = make_clear.common.key_not_blank;
          ad_fits = ad_fits_lem;
          message_fits = omega (arith, make_clear.message_fits, message_fits_lem);
        } (le_of_eq (sym long))

    pub written : (e : Edition) (part : List ℕ) {answer : Answer} {out : List ℕ} → length part ≡ length message + 8
        → outcome answer out ≡ cipher.sealed e key nonce (frame_ad identifier (field_code (length message))) message part
        → out ≡ payload e key nonce (frame_ad identifier (field_code (length message))) message
    written e part long is =
        let ad = frame_ad identifier (field_code (length message)) in
        let p = payload e key nonce ad message in
        ap (λ (o : Outcome). o.output) (seals e part long is)
        ∙ ap (λ (t : List ℕ). p ++ t) (drop_of_length-le part (le_of_eq (long ∙ sym (length-payload e key nonce ad message))))
        ∙ append-nil p

    -- Making seals to such a part of the output, and sealing does not refuse.
    pub make_seals : (e : Edition) (ad : List ℕ) {answer : Answer} {out : List ℕ} → ad ≡ frame_ad identifier (field_code (length message))
        → outcome answer out ≡ cipher.sealed e key nonce ad message (mid_of 1 (length message + 9 - 1) (set lent 0 (length message)))
        → IsOk answer
    make_seals e ad its sealed =
        let part : length (mid_of 1 (length message + 9 - 1) (set lent 0 (length message))) ≡ length message + 9 - 1 =
        mid_len 1 (length message + 9) (set lent 0 (length message)) (omega (arith, length-set lent 0 (length message), make_holds, make_clear.fits)) in
        ap (λ (o : Outcome). is_ok o.answer) (seals e (mid_of 1 (length message + 9 - 1) (set lent 0 (length message))) (omega (arith, part)) (rw its at sealed))

    -- What the walk of the code leaves in the output: M, then what sealing wrote to p, then the bytes z of zero.
    module _ (e : Edition) (p z : List ℕ) where
      abbrev m : ℕ
      m = length message

      abbrev sealed_output : List ℕ
      sealed_output = put_mid 1 (m + 9 - 1) (set lent 0 m) p

      pub make_passed : (ad : List ℕ) (size : ℕ) {answer : Answer} → ad ≡ frame_ad identifier (field_code (m)) → size ≡ field_size (m)
          → outcome answer p ≡ cipher.sealed e key nonce ad message (mid_of 1 (m + 9 - 1) (set lent 0 (m)))
          → z ≡ bytes (length (mid_of (m + 9) (size - (m + 9)) sealed_output)) (word (8 * length (mid_of (m + 9) (size - (m + 9)) sealed_output)) 0)
          → outcome (Ok size) (put_mid (m + 9) (size - (m + 9)) sealed_output z) ≡ made e key nonce identifier message lent
      unfolding data_field
      make_passed ad size {answer} its field_sized sealed spelled =
          ap₂ outcome (ap Ok field_sized)
          (ap (put_mid (m + 9) (size - (m + 9)) sealed_output) zeros ∙ with-zeros m size p lent long holds room
          ∙ ap₂ (λ (s : List ℕ) (n : ℕ). ((m ∷ s) ++ replicate (n - (m + 9)) 0) ++ drop n lent) wrote field_sized)
          ∙ ap (λ (n : ℕ). outcome (Ok n) (data_field e key nonce identifier message ++ drop n lent)) (sym (sized e key nonce identifier message make_clear.message_fits))
          ∙ sym ((making e key nonce identifier message lent).makes (record { common = make_clear.common; message_fits = make_clear.message_fits }) make_clear.fits)
        where
          holds : m + 9 ≤ size
          holds = omega (arith, field_sized, make_holds)

          room : size ≤ length lent
          room = omega (arith, field_sized, make_clear.fits)

          part : length (mid_of 1 (m + 9 - 1) (set lent 0 m)) ≡ m + 9 - 1
          part = mid_len 1 (m + 9) (set lent 0 m) (omega (arith, length-set lent 0 m, holds, room))

          wrote : p ≡ payload e key nonce (frame_ad identifier (field_code m)) message
          wrote = written e (mid_of 1 (m + 9 - 1) (set lent 0 m)) (omega (arith, part)) (rw its at sealed)

          long : length p ≡ m + 8
          long = ap length wrote ∙ length-payload e key nonce (frame_ad identifier (field_code m)) message

          same : length sealed_output ≡ length lent
          same = part_kept lent m (m + 9 - 1) p (omega (arith, long, part))

          zeros : z ≡ replicate (size - (m + 9)) 0
          zeros = spelled ∙ spelled-zero (length (mid_of (m + 9) (size - (m + 9)) sealed_output)) ∙ ap (λ (n : ℕ). replicate n 0) (mid_len (m + 9) size sealed_output (omega (arith, same, room)))

-- ---- reading

pub record ReadChecked (key nonce : List ℕ) (identifier code : ℕ) (field lent : List ℕ) (c : Check) : Type 0 where
  pub checked : c ≡ judgement key nonce identifier code field (length lent)

module _ {key nonce : List ℕ} {identifier code : ℕ} {field lent : List ℕ} {c : Check} (checks : ReadChecked key nonce identifier code field lent c) where
  pub read_failed : (e : Edition) {r : Refusal} → c ≡ Err r → outcome (Err r) lent ≡ read e key nonce identifier code field lent
  unfolding wrong_tag recovered
  read_failed e h = open_failed (payloads.cipher e key nonce (frame_ad identifier code)) (sealed_part field) lent _ _ (read-settled e key nonce identifier code field lent) (sym checks.checked ∙ h)

  module _ (passed : c ≡ passed) where
    read_clear : ReadingClear key nonce identifier code field (length lent) false
    read_clear = passed_clear key nonce identifier code field (length lent) (sym checks.checked ∙ passed)

    -- The field has M and the tag.
    pub read-holds : announced field + 9 ≤ length field
    read-holds = omega (arith, read_clear.coded.coded, ap coded_length read_clear.announces.smallest, field_codes.holds (announced field) read_clear.announces.message_fits)

    -- What opening the part behind M, up to the filler, comes to.
    pub read_passed : (e : Edition) (ad : List ℕ) (m : ℕ) {o : Outcome} → ad ≡ frame_ad identifier code → m ≡ announced field
        → o ≡ cipher.opened e key nonce ad (mid_of 1 (m + 9 - 1) field) lent → o ≡ read e key nonce identifier code field lent
    read_passed e ad m its announces opened =
        let eight : m + 9 - 1 ≡ announced field + 8 = omega (arith, announces) in
        opened ∙ ap₂ (λ (x y : List ℕ). cipher.opened e key nonce x y lent) its (ap (λ (k : ℕ). take k (drop 1 field)) eight)
        ∙ sym (read_opened e key nonce identifier code field lent read_clear)
