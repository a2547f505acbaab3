-- Demand 3: strings tell pairs apart, and which flips opening accepts: substitution at equal lengths.
-- Assumes nothing.
use mathlib.Core.Path.{◌≡◌, refl, sym, ap, ap₂, ◌∙◌, subst}
use mathlib.Core.Logic.{◌↔◌}
use mathlib.Core.Bool.{Bool}
use mathlib.Core.List.{List, ◌++◌}
use Prim.Native.Nat.{ℕ, ◌+◌, ◌*◌, ◌≤◌}
use native.Mathlib.Nat.{lt_of_le_of_lt}
use native.Mathlib.Omega.{arith}
use lib.ListN.{length, take, drop, length-append, length-drop, take-append-drop}
use lib.Seq.{length-take-le}
use Rattle.bits.specs.Bytes.{Bytes}
use Rattle.bits.specs.Strings.{◌⊞◌}
use Rattle.bits.proofs.Flip.{Flips}
use Rattle.machine.specs.declared.edition.Edition.{Edition}
use Rattle.startup.specs.Editions.{bits_in, flip_in}
use Rattle.startup.proofs.Order.{length-flip_in, flip_in_are_bytes, flip_in-append, sum-flip_in, length-sum-bits_in, flip_in-sum}
use Rattle.tagged.proofs.Parts.{ciphertext_part-joined, tag_part-joined}
use Rattle.payload.specs.Sizes.{tag_size}
use Rattle.payload.specs.Payload.{ciphertext, deciphered, tag, payload, ciphertext_part, tag_part}
use Rattle.payload.specs.TwoTags.{differing_registers}
use Rattle.payload.proofs.AuthenticatedString.{unambiguous}
use Rattle.payload.proofs.Payload.{length_ciphertext_lem, length_tag_lem, length-payload, deciphered-flipped}
use Rattle.payload.proofs.EqualLengths.{flipped-lengths}
use Rattle.grain128aead.specs.Sizes.{ad_limit}
use Rattle.grain128aead.specs.Calls.{recovered, opened}
use Rattle.grain128aead.specs.Demand2.{Legal}
use Rattle.grain128aead.specs.Demand3.{Distinct, Flipped, Agrees, Demand3}
use Rattle.grain128aead.specs.Substitution.{genuine, EqualLengths, EveryFlip}
use Rattle.grain128aead.proofs.AdLengths.{two_bytes}
use Rattle.grain128aead.proofs.Demand2.{Authentic, InOrder, legal-in_order, verdict}
use Rattle.grain128aead.proofs.Substitution.{tag_part_lem, authentic_sum}

pub distinct : Distinct
distinct ed ad message ad' message' b c b' c' l l' = unambiguous ed ad message ad' message' b c b' c' (lt_of_le_of_lt l two_bytes) (lt_of_le_of_lt l' two_bytes)

module _ {ed : Edition} {key nonce ad input : List ℕ} (f : Flipped ed key nonce ad input) where
  open f use {old_ad, old_message, in_ad, in_ciphertext, in_tag}

  legal : Legal key nonce old_ad old_message
  legal = f.genuine.legal

  -- The input is the flipped ciphertext and the flipped tag.
  c' : List ℕ
  c' = flip_in ed (ciphertext ed key nonce old_ad old_message) in_ciphertext

  t' : List ℕ
  t' = flip_in ed (tag ed key nonce old_ad old_message) in_tag

  input_parts : input ≡ c' ++ t'
  unfolding payload c' t'
  input_parts =
      f.flipped_input ∙ ap (λ (p : List ℕ). flip_in ed p (in_ciphertext ++ in_tag)) (sym f.genuine.made)
      ∙ flip_in-append ed (ciphertext ed key nonce old_ad old_message) (tag ed key nonce old_ad old_message) in_ciphertext in_tag
      (f.ciphertext_flips ∙ ap (λ (n : ℕ). 8 * n) (sym (length_ciphertext_lem ed key nonce old_ad old_message)))

  length_c' : length c' ≡ length old_message
  unfolding c'
  length_c' = length-flip_in ed (ciphertext ed key nonce old_ad old_message) in_ciphertext ∙ length_ciphertext_lem ed key nonce old_ad old_message

  length_t' : length t' ≡ tag_size
  unfolding t'
  length_t' = length-flip_in ed (tag ed key nonce old_ad old_message) in_tag ∙ length_tag_lem ed key nonce old_ad old_message

  length-ad : length ad ≡ length old_ad
  length-ad = ap length f.flipped_ad ∙ length-flip_in ed old_ad in_ad

  -- It hides the old message with the ciphertext's flips.
  recovers : recovered ed key nonce ad input ≡ flip_in ed old_message in_ciphertext
  unfolding c'
  recovers =
      ap (deciphered ed key nonce ad) (ap ciphertext_part input_parts ∙ ciphertext_part-joined tag_size c' t' length_t')
      ∙ deciphered-flipped ed key nonce old_ad ad old_message in_ciphertext (sym length-ad) f.ciphertext_flips

  -- Its tag is the genuine one with the tag's flips.
  received_tag : tag_part input ≡ flip_in ed (tag ed key nonce old_ad old_message) in_tag
  unfolding t'
  received_tag = ap tag_part input_parts ∙ tag_part-joined tag_size c' t' length_t'

  flipped-bytes : Bytes (flip_in ed (tag ed key nonce old_ad old_message) in_tag)
  flipped-bytes = flip_in_are_bytes ed _ in_tag

  pub equal_lengths : EqualLengths f
  equal_lengths = record {
    registers =
        sym (flipped-lengths ed key nonce old_ad old_message in_ad in_ciphertext legal.key_sized legal.nonce_sized f.ad_flips f.ciphertext_flips)
        ∙ ap₂ (differing_registers ed key nonce old_ad old_message) (sym f.flipped_ad) (sym recovers);
    tags =
        sym (sum-flip_in ed (tag ed key nonce old_ad old_message) in_tag (f.tag_flips ∙ ap (λ (n : ℕ). 8 * n) (sym (length_tag_lem ed key nonce old_ad old_message))))
        ∙ ap₂ (λ (s t : List ℕ). bits_in ed s ⊞ bits_in ed t) (sym (tag_part_lem (genuine f))) (sym received_tag);
    message = sym recovers;
  }

  -- So the condition on any tag is the one on flips.
  authentic_agrees : Authentic ed key nonce ad input ↔ Agrees f
  unfolding t'
  authentic_agrees =
      let by-sum = authentic_sum (genuine f) ad input (subst Bytes (sym received_tag) flipped-bytes) (ap length received_tag ∙ length_t') in
      let e = equal_lengths in
      (λ a. e.registers ∙ by-sum.0 a ∙ sym e.tags, λ agrees. by-sum.1 (sym e.registers ∙ agrees ∙ e.tags))

  in_order : (out : List ℕ) → length old_message ≤ length out → InOrder ed key nonce ad input out
  in_order out room =
      legal-in_order ed key nonce ad input out old_message
      record { key_sized = legal.key_sized; nonce_sized = legal.nonce_sized; key_not_blank = legal.key_not_blank; ad_fits = subst (λ (n : ℕ). n ≤ ad_limit) (sym length-ad) legal.ad_fits; message_fits = legal.message_fits }
      (ap length input_parts ∙ length-append c' t' ∙ ap₂ ◌+◌ length_c' length_t')
      room

pub demand3 : (ed : Edition) (key nonce ad input out : List ℕ) → Demand3 ed key nonce ad input out (opened ed key nonce ad input out)
demand3 ed key nonce ad input out f room = verdict ed key nonce ad input out (in_order f out room) (authentic_agrees f) (recovers f)

-- The flips are the sums of the genuine strings and those that are opened.
pub every-flip : EveryFlip
every-flip ed key nonce ad input g b c la li = (
  record {
    old_ad = g.ad;
    old_message = g.message;
    old_payload = g.payload;
    genuine = g.makes;
    in_ad = bits_in ed g.ad ⊞ bits_in ed ad;
    in_ciphertext = take n flips;
    in_tag = drop n flips;
    ad_flips = length-sum-bits_in ed g.ad ad (sym la);
    ciphertext_flips = length-take-le n flips (omega (arith, both, long));
    tag_flips = omega (arith, length-drop n flips, both, long);
    flipped_ad = sym (flip_in-sum ed g.ad ad b (sym la));
    flipped_input = sym (ap (flip_in ed g.payload) (take-append-drop n flips) ∙ flip_in-sum ed g.payload input c (sym li));
  },
  refl,
)
  where
    n : ℕ
    n = 8 * length g.message

    flips : List Bool
    flips = bits_in ed g.payload ⊞ bits_in ed input

    both : Flips g.payload flips
    both = length-sum-bits_in ed g.payload input (sym li)

    long : length g.payload ≡ length g.message + tag_size
    long = ap length (sym g.makes.made) ∙ length-payload ed key nonce g.ad g.message
