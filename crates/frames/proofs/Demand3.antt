-- Demand 3 for frames: that of the cipher, for the AD of a frame and its sealed part.
-- Assumes nothing.
use mathlib.Core.Path.{◌≡◌, refl, sym, ap, ◌∙◌, subst}
use mathlib.Core.Bool.{Bool, false}
use mathlib.Core.List.{List, ◌++◌}
use Prim.Native.Nat.{ℕ, ◌+◌, ◌-◌, ◌*◌, ◌/◌, ◌%◌, ◌^◌, ◌≤◌, ◌<◌}
use native.Mathlib.Nat.{div-div-eq-div-mul}
use native.Mathlib.Omega.{arith}
use lib.ListN.{length, get_or, length-append}
use Rattle.bits.specs.Strings.{zeros}
use Rattle.refusals.specs.Outcome.{Outcome}
use Rattle.machine.specs.declared.edition.Edition.{Edition}
use Rattle.startup.specs.Editions.{flip_in}
use Rattle.grain128aead.specs.Demand3.{Verdict}
use Rattle.grain128aead.specs.Demand3 as cipher
use Rattle.grain128aead.proofs.Demand3 as cipher_proofs
use Rattle.frame_checks.specs.Layout.{identifier_limit, overhead, field_code, field_size, announced, sealed_part, filler, zero_bytes}
use Rattle.frame_checks.proofs.Rows.{ReadingClear}
use Rattle.frame_checks.proofs.ZeroBytes.{zeros_are}
use Rattle.frames.specs.Field.{frame_ad}
use Rattle.frames.specs.Calls.{read}
use Rattle.frames.specs.Demand3.{Distinct, Flipped, Agrees, Demand3}
use Rattle.frames.proofs.Parts.{flip_in-none}
use Rattle.frames.proofs.Field.{ad_fits_lem, fill, length-sealed, made-sealed, made-filler, made-payload, like_coded, like_announces}
use Rattle.frames.proofs.Settled.{read_opened}
use Rattle.frames.proofs.Flipped.{zeros-bytes, ad-bytes, behind-announced, behind-sealed, behind-filler, behind-length}

-- Numbers with the same last byte and the same bytes above it are the same.
same_bytes : (x y : ℕ) → x / 256 ≡ y / 256 → x % 256 ≡ y % 256 → x ≡ y
same_bytes x y above last = omega (arith, above, last)

-- So it is from any place on.
same_from : (x y n : ℕ) → x / (n * 256) ≡ y / (n * 256) → x / n % 256 ≡ y / n % 256 → x / n ≡ y / n
same_from x y n above = same_bytes (x / n) (y / n) (div-div-eq-div-mul x n 256 ∙ above ∙ sym (div-div-eq-div-mul y n 256))

top_byte : (x : ℕ) → x < identifier_limit → x / 2 ^ 24 % 256 ≡ x / 2 ^ 24
top_byte x h = omega (arith, h)

-- The AD tells identifiers apart.
same-identifier : (i j c d : ℕ) → i < identifier_limit → j < identifier_limit → frame_ad i c ≡ frame_ad j d → i ≡ j
same-identifier i j c d hi hj same =
    same_bytes i j (same_from i j (2 ^ 8) (same_from i j (2 ^ 16) (sym (top_byte i hi) ∙ at 0 ∙ top_byte j hj) (at 1)) (at 2)) (at 3)
  where
    at : (k : ℕ) → get_or (frame_ad i c) k 0 ≡ get_or (frame_ad j d) k 0
    at k = ap (λ (s : List ℕ). get_or s k 0) same

pub distinct : Distinct
distinct e i j message message' b b' hi hj same =
    let c = field_code (length message) in
    let d = field_code (length message') in
    let both = cipher_proofs.distinct e (frame_ad i c) message (frame_ad j d) message' (ad-bytes i c) b (ad-bytes j d) b' ad_fits_lem ad_fits_lem same in
    (same-identifier i j c d hi hj both.0, both.1)

module _ {e : Edition} {key nonce : List ℕ} {identifier code : ℕ} {field : List ℕ} (f : Flipped e key nonce identifier code field) where
  open f use {old, in_ciphertext, in_tag}

  long : length (in_ciphertext ++ in_tag) ≡ 8 * length (sealed_part old.field)
  long = omega (arith, length-append in_ciphertext in_tag, f.ciphertext_flips, f.tag_flips, ap length (made-sealed old.makes), length-sealed old.makes)

  abbrev none : List Bool
  none = zeros (8 * length (filler old.field))

  -- The cipher's flips: those of ciphertext and tag, and none in the AD.
  in_sealed : cipher.Flipped e key nonce (frame_ad identifier code) (sealed_part field)
  in_sealed = record {
    old_ad = frame_ad identifier code;
    old_message = old.message;
    old_payload = sealed_part old.field;
    genuine = made-payload old.makes;
    in_ad = zeros 40;
    in_ciphertext = in_ciphertext;
    in_tag = in_tag;
    ad_flips = refl;
    ciphertext_flips = f.ciphertext_flips;
    tag_flips = f.tag_flips;
    flipped_ad = sym (flip_in-none e (frame_ad identifier code) 40 (ad-bytes identifier code) refl);
    flipped_input = behind-sealed old (in_ciphertext ++ in_tag) none long f.flipped;
  }

  clear : (out : List ℕ) → length old.message ≤ length out → ReadingClear key nonce identifier code field (length out) false
  clear out room = record {
    common = old.makes.legal.common;
    coded = like_coded old.makes same;
    announces = like_announces old.makes same its;
    zeros = ap zero_bytes (behind-filler old (in_ciphertext ++ in_tag) none long f.flipped ∙ flip_in-none e (fill old.makes) (8 * length (filler old.field)) (zeros-bytes filled) (ap (λ (t : List ℕ). 8 * length t) (made-filler old.makes))) ∙ zeros_are filled;
    fits = omega (arith, its, room);
    authentic = refl;
  }
    where
      filled : ℕ
      filled = field_size (length old.message) - (length old.message + overhead)

      same : length field ≡ length old.field
      same = behind-length old (in_ciphertext ++ in_tag) none long f.flipped

      its : announced field ≡ length old.message
      its = behind-announced old (in_ciphertext ++ in_tag) none long f.flipped

pub demand3 : (e : Edition) (key nonce : List ℕ) (identifier code : ℕ) (field out : List ℕ) → Demand3 e key nonce identifier code field out (read e key nonce identifier code field out)
unfolding in_sealed
demand3 e key nonce identifier code field out f room =
    subst (λ (o : Outcome). Verdict (Agrees f) (flip_in e f.old.message f.in_ciphertext) out o) (sym (read_opened e key nonce identifier code field out (clear f out room)))
    (cipher_proofs.demand3 e key nonce (frame_ad identifier code) (sealed_part field) out (in_sealed f) room)
