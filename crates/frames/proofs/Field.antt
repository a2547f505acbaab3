-- The field that a message makes: its size, its parts, and the message's payload in it.
-- Assumes nothing.
use mathlib.Core.Path.{◌≡◌, refl, sym, ap, ◌∙◌}
use mathlib.Core.List.{List, ◌∷◌}
use Prim.Native.Nat.{ℕ, ◌+◌, ◌-◌, ◌≤◌}
use native.Mathlib.Omega.{arith}
use lib.Dec.{lit≤}
use lib.ListN.{length, replicate, length-append, length-replicate}
use Rattle.machine.specs.declared.edition.Edition.{Edition}
use Rattle.payload.specs.Payload.{payload}
use Rattle.payload.proofs.Payload.{length-payload}
use Rattle.limits.specs.Limits.{message_limit}
use Rattle.grain128aead.specs.Sizes.{ad_limit}
use Rattle.grain128aead.specs.Demand2 as cipher
use Rattle.length_codes.specs.LengthCodes.{coded_length}
use Rattle.frame_checks.specs.Layout.{overhead, field_code, field_size, announced, sealed_part, filler}
use Rattle.frame_checks.proofs.FieldCodes.{field_codes}
use Rattle.frame_checks.proofs.Rows.{Coded, Announces}
use Rattle.frames.specs.Field.{frame_ad, AdExample, data_field, Sized}
use Rattle.frames.specs.Demand2.{Makes}
use Rattle.frames.proofs.Parts.{joined, joined-sealed, joined-filler}

-- An AD of five bytes and a message of a frame are within the cipher's limits.
pub ad_fits_lem : 5 ≤ ad_limit
unfolding ad_limit
ad_fits_lem = lit≤ tt

pub message_fits_lem : 55 ≤ message_limit
unfolding message_limit
message_fits_lem = lit≤ tt

pub ad_example : AdExample
ad_example = refl

pub sized : Sized
unfolding data_field
sized e key nonce identifier message fits =
    let m = length message in
    let p = payload e key nonce (frame_ad identifier (field_code m)) message in
    let z : List ℕ = replicate (field_size m - (m + overhead)) 0 in
    omega (arith, length-append (m ∷ p) z, length-replicate {A = ℕ} (field_size m - (m + overhead)) 0, length-payload e key nonce (frame_ad identifier (field_code m)) message, field_codes.holds m fits)

module _ {e : Edition} {key nonce : List ℕ} {identifier code : ℕ} {message field : List ℕ} (makes : Makes e key nonce identifier code message field) where
  -- The filler of the field, and how much of it there is.
  abbrev pub fill : List ℕ
  fill = replicate (field_size (length message) - (length message + overhead)) 0

  -- The payload in it.
  abbrev pub sealed : List ℕ
  sealed = payload e key nonce (frame_ad identifier code) message

  pub length-sealed : length sealed ≡ length message + 8
  length-sealed = length-payload e key nonce (frame_ad identifier code) message

  pub made-joined : field ≡ joined (length message) sealed fill
  unfolding data_field
  made-joined =
      sym makes.made ∙ ap (λ (c : ℕ). joined (length message) (payload e key nonce (frame_ad identifier c) message) fill) makes.its_code

  pub made-announced : announced field ≡ length message
  made-announced = ap announced made-joined

  pub made-sealed : sealed_part field ≡ sealed
  made-sealed = ap sealed_part made-joined ∙ joined-sealed (length message) sealed fill length-sealed

  pub made-filler : filler field ≡ fill
  made-filler = ap filler made-joined ∙ joined-filler (length message) sealed fill length-sealed

  pub made-length : length field ≡ field_size (length message)
  made-length = ap length (sym makes.made) ∙ sized e key nonce identifier message makes.legal.message_fits

  -- Another field of its length is of the coded length too, and one with its M announces a legal length.
  pub like_coded : {other : List ℕ} → length other ≡ length field → Coded code other
  like_coded same = record {
    is_code = omega (arith, field_codes.most (length message) makes.legal.message_fits, makes.its_code);
    coded = same ∙ made-length ∙ ap coded_length makes.its_code;
  }

  pub like_announces : {other : List ℕ} → length other ≡ length field → announced other ≡ length message → Announces code other
  like_announces same its = record {
    some = λ none. omega (arith, none, same, made-length, field_codes.holds (length message) makes.legal.message_fits);
    message_fits = omega (arith, its, makes.legal.message_fits);
    smallest = sym makes.its_code ∙ ap field_code (sym its);
  }

  -- So the cipher makes the sealed part from the message.
  pub made-payload : cipher.Makes e key nonce (frame_ad identifier code) message (sealed_part field)
  made-payload = record {
    is_bytes = makes.is_bytes;
    legal = record {
      key_sized = makes.legal.common.key_sized;
      nonce_sized = makes.legal.common.nonce_sized;
      key_not_blank = makes.legal.common.key_not_blank;
      ad_fits = ad_fits_lem;
      message_fits = omega (arith, makes.legal.message_fits, message_fits_lem);
    };
    made = sym made-sealed;
  }
