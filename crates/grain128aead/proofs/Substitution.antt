-- Substitution: opening compared with a genuine payload of any lengths.
-- Assumes nothing.
use mathlib.Core.Path.{◌≡◌, refl, sym, ap, ap₂, ◌∙◌, subst}
use mathlib.Core.Logic.{◌↔◌}
use mathlib.Core.Bool.{Bool}
use mathlib.Core.List.{List}
use Prim.Native.Nat.{ℕ, ◌≤◌}
use lib.ListN.{length}
use Rattle.bits.specs.Bytes.{Bytes}
use Rattle.bits.specs.Strings.{◌⊞◌}
use Rattle.machine.specs.declared.edition.Edition.{Edition}
use Rattle.startup.specs.Editions.{bits_in}
use Rattle.payload.specs.Sizes.{tag_size}
use Rattle.tagged.proofs.Parts.{tag_part-bytes}
use Rattle.tagged.proofs.Opening.{length-recovered, makes-tag}
use Rattle.payload.specs.Payload.{tag, payload, tag_part, cipher}
use Rattle.payload.proofs.Payload.{length_tag_lem}
use Rattle.payload.proofs.Sound.{sound}
use Rattle.payload.proofs.TwoTags.{tag_self, second_tag}
use Rattle.grain128aead.specs.Calls.{recovered, opened}
use Rattle.grain128aead.specs.Demand2.{Legal}
use Rattle.grain128aead.specs.Demand3.{Verdict}
use Rattle.grain128aead.specs.Substitution.{Genuine, differing, Substitution}
use Rattle.grain128aead.proofs.Demand2.{Authentic, legal-in_order, verdict}

module _ {ed : Edition} {key nonce : List ℕ} (g : Genuine ed key nonce) where
  pub tag_part_lem : tag_part g.payload ≡ tag ed key nonce g.ad g.message
  unfolding payload
  tag_part_lem = makes-tag (cipher ed key nonce g.ad) (sound ed key nonce g.ad) g.payload g.message g.makes.made

  module _ (ad input : List ℕ) where
    -- The input's tag is the recomputed one exactly when the registers add up to its sum with the genuine one.
    pub authentic_sum : Bytes (tag_part input) → length (tag_part input) ≡ tag_size
        → Authentic ed key nonce ad input ↔ (differing g ad input ≡ bits_in ed (tag_part g.payload) ⊞ bits_in ed (tag_part input))
    authentic_sum b e =
        subst (λ (t : List ℕ). Authentic ed key nonce ad input ↔ (differing g ad input ≡ bits_in ed t ⊞ bits_in ed (tag_part input))) (sym tag_part_lem)
        (second_tag ed key nonce g.ad g.message ad (recovered ed key nonce ad input) (tag_part input) g.makes.legal.key_sized g.makes.legal.nonce_sized b e)

    any_tag_lem : (out : List ℕ) → Bytes (tag_part input) → Legal key nonce ad (recovered ed key nonce ad input) → length (recovered ed key nonce ad input) ≤ length out
        → length (tag_part input) ≡ tag_size
        → Verdict (differing g ad input ≡ bits_in ed (tag_part g.payload) ⊞ bits_in ed (tag_part input)) (recovered ed key nonce ad input) out (opened ed key nonce ad input out)
    any_tag_lem out b legal room e =
        verdict ed key nonce ad input out
        (legal-in_order ed key nonce ad input out (recovered ed key nonce ad input) legal (length-recovered (cipher ed key nonce ad) (sound ed key nonce ad) input e) room)
        (authentic_sum b e) refl

pub substitution : (ed : Edition) (key nonce ad input out : List ℕ) → Bytes input → Substitution ed key nonce ad input out (opened ed key nonce ad input out)
substitution ed key nonce ad input out b g legal room = record {
  -- The same tag adds up to zero with itself.
  same_tag = λ e.
      let same = e ∙ tag_part_lem g in
      subst (λ (z : List Bool). Verdict (differing g ad input ≡ z) (recovered ed key nonce ad input) out (opened ed key nonce ad input out))
      (ap₂ (λ (s t : List ℕ). bits_in ed s ⊞ bits_in ed t) (tag_part_lem g) same ∙ tag_self ed key nonce g.ad g.message)
      (any_tag_lem g ad input out (tag_part-bytes tag_size input b) legal room (ap length same ∙ length_tag_lem ed key nonce g.ad g.message));
  any_tag = any_tag_lem g ad input out (tag_part-bytes tag_size input b) legal room;
}
