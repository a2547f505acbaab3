-- The orders' numbers and rows, and what it means that no row applies.
-- Assumes nothing.
use mathlib.Core.Path.{◌≡◌, refl, ap}
use mathlib.Core.Logic.{◌≢◌}
use mathlib.Core.Bool.{Bool, true, false, true≢false, not, ◌||◌}
use mathlib.Core.List.{List}
use Prim.Native.Nat.{ℕ, ◌≤◌, ◌<◌}
use borrow.Author.Tests.{ltb-true, ltb-false, lt-ltb, le-ltb, leb-false, lt-leb, eqb-true, eqb-false, eq-eqb, ne_eqb, not-false}
use lib.Dec.{eqb, leb, ltb}
use lib.ListN.{length}
use Rattle.refusals.specs.declared.Refusal.{Refusal}
use Rattle.refusals.specs.declared.Refusal.TheVariants.{KeySize, NonceSize, OutputTooShort, TagDiffers, IdentifierTooLarge, FrameMessageTooLong, NotCodedLength, WrongMessageLength, FillerNotZero, BlankKey}
use Rattle.refusals.specs.Refusals.{among}
use Rattle.refusals.proofs.Rows.{quiet_none, quiet_row}
use Rattle.key.specs.Sizes.{key_size, nonce_size}
use Rattle.key.specs.BlankKey.{is_blank}
use Rattle.key.proofs.BlankKey.{not_blank, unequal_not_blank}
use Rattle.length_codes.specs.LengthCodes.{coded_length}
use Rattle.frame_checks.specs.Layout.{identifier_limit, message_limit, field_code, field_size, announced, filler, zero_bytes}
use Rattle.frame_checks.specs.Common.{Common}
use Rattle.frame_checks.specs.Order.{common, making, before_tag, reading, Numbered}
use Rattle.frame_checks.specs.Rows.{common_rows, making_rows, not_coded, wrong_length, reading_rows, Tabled}

pub numbered : Numbered
unfolding making reading before_tag common
numbered = record { of_making = refl; of_reading = refl }

pub tabled : Tabled
unfolding making reading before_tag common making_rows reading_rows common_rows
tabled = record { of_making = λ key nonce identifier m room. refl; of_reading = λ key nonce identifier code field room wrong_tag. refl }

-- The rows on key, nonce and identifier, where these are in order.
pub record CommonRows (key nonce : List ℕ) (identifier : ℕ) : Type 0 where
  pub key_sized : not (eqb (length key) key_size) ≡ false
  pub nonce_sized : not (eqb (length nonce) nonce_size) ≡ false
  pub key_not_blank : is_blank key ≡ false
  pub identifier_fits : leb identifier_limit identifier ≡ false

module _ {key nonce : List ℕ} {identifier : ℕ} where
  pub common_rows_lem : Common key nonce identifier → CommonRows key nonce identifier
  common_rows_lem a = record {
    key_sized = ap not (eq-eqb (length key) key_size a.key_sized);
    nonce_sized = ap not (eq-eqb (length nonce) nonce_size a.nonce_sized);
    key_not_blank = unequal_not_blank key a.key_not_blank;
    identifier_fits = lt-leb identifier_limit identifier a.identifier_fits;
  }

  pub rows-common : CommonRows key nonce identifier → Common key nonce identifier
  rows-common r = record {
    key_sized = eqb-true (length key) key_size (not-false (eqb (length key) key_size) r.key_sized);
    nonce_sized = eqb-true (length nonce) nonce_size (not-false (eqb (length nonce) nonce_size) r.nonce_sized);
    key_not_blank = not_blank key r.key_not_blank;
    identifier_fits = leb-false identifier_limit identifier r.identifier_fits;
  }

-- ---- making

pub record MakingClear (key nonce : List ℕ) (identifier m room : ℕ) : Type 0 where
  pub common : Common key nonce identifier
  pub message_fits : m ≤ message_limit
  pub fits : field_size m ≤ room

module _ (key nonce : List ℕ) (identifier m room : ℕ) where
  pub making_clear : ((r : Refusal) → among (making_rows key nonce identifier m room) r ≡ false) → MakingClear key nonce identifier m room
  unfolding making_rows common_rows among
  making_clear none = record {
    common = rows-common (record { key_sized = none KeySize; nonce_sized = none NonceSize; key_not_blank = none BlankKey; identifier_fits = none IdentifierTooLarge });
    message_fits = ltb-false message_limit m (none FrameMessageTooLong);
    fits = ltb-false room (field_size m) (none OutputTooShort);
  }

  pub clear_making : MakingClear key nonce identifier m room → (r : Refusal) → among (making_rows key nonce identifier m room) r ≡ false
  unfolding making_rows common_rows
  clear_making c =
      let a = common_rows_lem c.common in
      quiet_row _ _ a.key_sized (quiet_row _ _ a.nonce_sized (quiet_row _ _ a.key_not_blank (quiet_row _ _ a.identifier_fits
      (quiet_row _ _ (le-ltb message_limit m c.message_fits) (quiet_row _ _ (le-ltb room (field_size m) c.fits) quiet_none)))))

-- ---- reading

-- The data is of the coded length.
pub record Coded (code : ℕ) (field : List ℕ) : Type 0 where
  pub is_code : code < 16
  pub coded : length field ≡ coded_length code

-- M is legal, and the code is the smallest for it.
pub record Announces (code : ℕ) (field : List ℕ) : Type 0 where
  pub some : length field ≢ 0
  pub message_fits : announced field ≤ message_limit
  pub smallest : code ≡ field_code (announced field)

neither : (a b : Bool) → (a || b) ≡ false → (a ≡ false) × (b ≡ false)
neither true b e = absurd (true≢false e)
neither false b e = (refl, e)

module _ (code : ℕ) (field : List ℕ) where
  pub row_coded : not_coded code field ≡ false → Coded code field
  row_coded e =
      let h = neither (not (ltb code 16)) _ e in
      record { is_code = ltb-true code 16 (not-false (ltb code 16) h.0); coded = eqb-true (length field) (coded_length code) (not-false _ h.1) }

  pub coded_row : Coded code field → not_coded code field ≡ false
  coded_row c = simp (lt-ltb code 16 c.is_code, eq-eqb (length field) (coded_length code) c.coded)

  pub row_announces : wrong_length code field ≡ false → Announces code field
  row_announces e =
      let h = neither (eqb (length field) 0) _ e in
      let k = neither (ltb message_limit (announced field)) _ h.1 in
      record { some = eqb-false (length field) 0 h.0; message_fits = ltb-false message_limit (announced field) k.0; smallest = eqb-true code _ (not-false _ k.1) }

  pub announces_row : Announces code field → wrong_length code field ≡ false
  announces_row a = simp (ne_eqb (length field) 0 a.some, le-ltb message_limit (announced field) a.message_fits, eq-eqb code (field_code (announced field)) a.smallest)

pub record ReadingClear (key nonce : List ℕ) (identifier code : ℕ) (field : List ℕ) (room : ℕ) (wrong_tag : Bool) : Type 0 where
  pub common : Common key nonce identifier
  pub coded : Coded code field
  pub announces : Announces code field
  pub zeros : zero_bytes (filler field) ≡ true
  pub fits : announced field ≤ room
  pub authentic : wrong_tag ≡ false

module _ (key nonce : List ℕ) (identifier code : ℕ) (field : List ℕ) (room : ℕ) (wrong_tag : Bool) where
  pub reading_clear : ((r : Refusal) → among (reading_rows key nonce identifier code field room wrong_tag) r ≡ false) → ReadingClear key nonce identifier code field room wrong_tag
  unfolding reading_rows common_rows among
  reading_clear none = record {
    common = rows-common (record { key_sized = none KeySize; nonce_sized = none NonceSize; key_not_blank = none BlankKey; identifier_fits = none IdentifierTooLarge });
    coded = row_coded code field (none NotCodedLength);
    announces = row_announces code field (none WrongMessageLength);
    zeros = not-false (zero_bytes (filler field)) (none FillerNotZero);
    fits = ltb-false room (announced field) (none OutputTooShort);
    authentic = none TagDiffers;
  }

  pub clear_reading : ReadingClear key nonce identifier code field room wrong_tag → (r : Refusal) → among (reading_rows key nonce identifier code field room wrong_tag) r ≡ false
  unfolding reading_rows common_rows
  clear_reading c =
      let a = common_rows_lem c.common in
      quiet_row _ _ a.key_sized (quiet_row _ _ a.nonce_sized (quiet_row _ _ a.key_not_blank (quiet_row _ _ a.identifier_fits
      (quiet_row _ _ (coded_row code field c.coded) (quiet_row _ _ (announces_row code field c.announces) (quiet_row _ _ (ap not c.zeros)
      (quiet_row _ _ (le-ltb room (announced field) c.fits) (quiet_row _ _ c.authentic quiet_none))))))))
