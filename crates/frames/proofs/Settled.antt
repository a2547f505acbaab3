-- Making and reading by their rows: where those before the tag's are clear, reading is opening; where the key, the nonce, the identifier and the
-- coded length are in order, it goes by the field.
-- Assumes nothing.
use mathlib.Core.Path.{◌≡◌, refl, sym, ap, ap₂, ◌∙◌}
use mathlib.Core.Bool.{Bool, true, false, cond}
use mathlib.Core.List.{List}
use Prim.Native.Nat.{ℕ, ◌+◌}
use native.Mathlib.Omega.{arith}
use lib.Dec.{ltb}
use lib.ListN.{length, drop, length-drop}
use lib.Seq.{length-take-le}
use Rattle.refusals.specs.declared.Refusal.TheVariants.{OutputTooShort, TagDiffers, WrongMessageLength, FillerNotZero}
use Rattle.refusals.specs.Refusals.{Check, among, after, check, passed}
use Rattle.std.specs.Prelude.{Err}
use Rattle.refusals.specs.Outcome.{Outcome, settled, refused, success, judged}
use Rattle.refusals.proofs.Demand1.{decides}
use Rattle.refusals.proofs.LastRow.{after_false, check-last}
use Rattle.tagged.proofs.Opening as any_opening
use Rattle.checks.proofs.Demand1.{none_at_all}
use Rattle.machine.specs.declared.edition.Edition.{Edition}
use Rattle.payload.specs.Payload.{cipher}
use Rattle.grain128aead.specs.Calls.{opened}
use Rattle.grain128aead.proofs.Demand2.{InOrder, opening-tag}
use Rattle.length_codes.specs.LengthCodes.{coded_length}
use Rattle.frame_checks.specs.Common.{Common}
use Rattle.frame_checks.specs.Layout.{field_size, announced, sealed_part}
use Rattle.frame_checks.specs.Order.{common, before_tag, reading}
use Rattle.frame_checks.specs.Rows.{common_rows, wrong_length, filler_not_zero, reading_rows}
use Rattle.frame_checks.proofs.FieldCodes.{field_codes}
use Rattle.frame_checks.proofs.Rows.{common_rows_lem, Coded, coded_row, ReadingClear, reading_clear, clear_reading, tabled}
use Rattle.frames.specs.Field.{frame_ad}
use Rattle.frames.specs.Calls.{recovered, wrong_tag, read}
use Rattle.frames.proofs.Field.{ad_fits_lem, message_fits_lem}

-- What the rows before the tag's come to, whatever the tag.
abbrev pub judgement : (key nonce : List ℕ) → (identifier code : ℕ) → (field : List ℕ) → (room : ℕ) → Check
judgement key nonce identifier code field room = check before_tag (among (reading_rows key nonce identifier code field room false))

module _ (key nonce : List ℕ) (identifier code : ℕ) (field : List ℕ) (room : ℕ) where
  check-rows : (differs : Bool) → check reading (among (reading_rows key nonce identifier code field room differs)) ≡ after (judgement key nonce identifier code field room) TagDiffers differs
  unfolding reading before_tag common reading_rows common_rows among check
  check-rows differs = check-last before_tag TagDiffers (among (reading_rows key nonce identifier code field room differs))

  pub passed_clear : judgement key nonce identifier code field room ≡ passed → ReadingClear key nonce identifier code field room false
  passed_clear e =
      reading_clear key nonce identifier code field room false
      (none_at_all reading (reading_rows key nonce identifier code field room false) (tabled.of_reading key nonce identifier code field room false)
      ((decides (among (reading_rows key nonce identifier code field room false)) reading).passes.0 (check-rows false ∙ after_false _ TagDiffers ∙ e)))

  pub clear_passed : ReadingClear key nonce identifier code field room false → judgement key nonce identifier code field room ≡ passed
  clear_passed c =
      (decides (among (reading_rows key nonce identifier code field room false)) before_tag).passes.1 (λ r listed. clear_reading key nonce identifier code field room false c r)

  -- The sealed part has M + 8 bytes.
  pub length-sealed_part : ReadingClear key nonce identifier code field room false → length (sealed_part field) ≡ announced field + 8
  length-sealed_part c =
      let m = announced field in
      let long : length field ≡ field_size m = c.coded.coded ∙ ap coded_length c.announces.smallest in
      length-take-le (m + 8) (drop 1 field) (omega (arith, length-drop 1 field, long, field_codes.holds m c.announces.message_fits))

-- A row that does not apply is passed over; the last four rows give their refusals.
module _ (written out : List ℕ) where
  pass : (b : Bool) → b ≡ false → (c d : Check) → settled (cond b c d) written out ≡ settled d written out
  pass b e c d = ap (λ (t : Bool). settled (cond t c d) written out) e

  last_four : (length filler room tag : Bool)
      → settled (cond length (Err WrongMessageLength) (cond filler (Err FillerNotZero) (cond room (Err OutputTooShort) (cond tag (Err TagDiffers) passed)))) written out
      ≡ cond length (refused WrongMessageLength out) (cond filler (refused FillerNotZero out) (cond room (refused OutputTooShort out) (cond tag (refused TagDiffers out) (success written out))))
  unfolding settled
  last_four true filler room tag = refl
  last_four false true room tag = refl
  last_four false false true tag = refl
  last_four false false false true = refl
  last_four false false false false = refl

module _ (e : Edition) (key nonce : List ℕ) (identifier code : ℕ) (field out : List ℕ) where
  pub read-settled : read e key nonce identifier code field out
      ≡ settled (after (judgement key nonce identifier code field (length out)) TagDiffers (wrong_tag e key nonce identifier code field)) (recovered e key nonce identifier code field) out
  unfolding read judged
  read-settled = ap (λ (c : Check). settled c (recovered e key nonce identifier code field) out) (check-rows key nonce identifier code field (length out) (wrong_tag e key nonce identifier code field))

  module _ (clear : ReadingClear key nonce identifier code field (length out) false) where
    -- Only the tag's row is left.
    pub read-tag : read e key nonce identifier code field out ≡ cond (wrong_tag e key nonce identifier code field) (refused TagDiffers out) (success (recovered e key nonce identifier code field) out)
    unfolding wrong_tag recovered
    read-tag = any_opening.opening-tag (cipher e key nonce (frame_ad identifier code)) (sealed_part field) out _ _ read-settled (clear_passed key nonce identifier code field (length out) clear)

    in_order : InOrder e key nonce (frame_ad identifier code) (sealed_part field) out
    in_order =
        let long = length-sealed_part key nonce identifier code field (length out) clear in
        record {
          key_sized = clear.common.key_sized;
          nonce_sized = clear.common.nonce_sized;
          key_not_blank = clear.common.key_not_blank;
          ad_fits = ad_fits_lem;
          input_fits = omega (arith, long, message_fits_lem, clear.announces.message_fits);
          reaches = omega (arith, long);
          room = omega (arith, long, clear.fits);
        }

    pub read_opened : read e key nonce identifier code field out ≡ opened e key nonce (frame_ad identifier code) (sealed_part field) out
    unfolding wrong_tag recovered
    read_opened = read-tag ∙ sym (opening-tag e key nonce (frame_ad identifier code) (sealed_part field) out in_order)

  -- What reading comes to by the rows on the field.
  abbrev pub by_field : (wrong not_zero no_room : Bool) → Outcome
  by_field wrong not_zero no_room =
      cond wrong (refused WrongMessageLength out) (cond not_zero (refused FillerNotZero out) (cond no_room (refused OutputTooShort out)
      (cond (wrong_tag e key nonce identifier code field) (refused TagDiffers out) (success (recovered e key nonce identifier code field) out))))

  -- So it is where what stands before the field is in order.
  pub read-field : Common key nonce identifier → Coded code field → {wrong not_zero no_room : Bool}
      → wrong_length code field ≡ wrong → filler_not_zero field ≡ not_zero → ltb (length out) (announced field) ≡ no_room
      → read e key nonce identifier code field out ≡ by_field wrong not_zero no_room
  unfolding read judged reading before_tag common reading_rows common_rows among check
  read-field common coded {wrong} {not_zero} lengths zeros rooms =
      let a = common_rows_lem common in
      let w = recovered e key nonce identifier code field in
      pass w out _ a.key_sized _ _ ∙ pass w out _ a.nonce_sized _ _ ∙ pass w out _ a.key_not_blank _ _ ∙ pass w out _ a.identifier_fits _ _
      ∙ pass w out _ (coded_row code field coded) _ _
      ∙ last_four w out (wrong_length code field) (filler_not_zero field) (ltb (length out) (announced field)) (wrong_tag e key nonce identifier code field)
      ∙ ap₂ (λ (x y : Bool). by_field x y (ltb (length out) (announced field))) lengths zeros ∙ ap (by_field wrong not_zero) rooms
