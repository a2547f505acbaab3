-- Demands 1 and 2: the rows decide, and opening accepts exactly what some message makes.
-- Assumes nothing.
use mathlib.Core.Path.{◌≡◌, refl}
use mathlib.Core.Logic.{◌↔◌, ◌≢◌}
use mathlib.Core.Bool.{cond}
use mathlib.Core.List.{List}
use Prim.Native.Nat.{ℕ, ◌+◌, ◌-◌, ◌≤◌}
use native.Mathlib.Omega.{arith}
use borrow.Author.Tests.{ltb-false, le-ltb}
use lib.ListN.{length}
use Rattle.bits.specs.Bytes.{Bytes}
use Rattle.refusals.specs.declared.Refusal.TheVariants.{TagDiffers}
use Rattle.refusals.specs.Refusals.{passed}
use Rattle.refusals.specs.Outcome.{refused, success}
use Rattle.machine.specs.declared.edition.Edition.{Edition}
use Rattle.key.specs.Sizes.{key_size, nonce_size}
use Rattle.key.specs.BlankKey.{blank_key}
use Rattle.tagged.proofs.Sealing as any_sealing
use Rattle.tagged.proofs.Opening as any_opening
use Rattle.payload.specs.Sizes.{tag_size}
use Rattle.payload.specs.Payload.{payload, cipher}
use Rattle.payload.proofs.Sound.{sound}
use Rattle.limits.specs.Limits.{message_limit}
use Rattle.grain128aead.specs.Sizes.{ad_limit}
use Rattle.checks.specs.Order.{order}
use Rattle.grain128aead.specs.Calls.{sealing_table, sealing_row, sealed, recovered, opening_table, opening_row, opened, tag_differs}
use Rattle.checks.specs.Demand1.{Demand1}
use Rattle.grain128aead.specs.Demand2.{Legal, Sealing, Demand2}
use Rattle.grain128aead.specs.Demand3.{Verdict}
use Rattle.checks.proofs.Demand1.{tabled, demand1}
use Rattle.grain128aead.proofs.Settled.{sealing_judgement, opening_judgement, passed_clear, clear_passed, sealed-settled, opened-settled}

-- The tag part is the tag of the message that the input would have.
abbrev pub Authentic : Edition → (key nonce ad input : List ℕ) → Type 0
Authentic ed key nonce ad = any_opening.Authentic (cipher ed key nonce ad)

module _ (ed : Edition) (key nonce ad message out : List ℕ) where
  pub demand1_sealing : Demand1 order (sealing_row key nonce ad message out) (payload ed key nonce ad message) out (sealed ed key nonce ad message out)
  unfolding sealed
  demand1_sealing = demand1 order (sealing_table key nonce ad message out) (tabled ad_limit key nonce ad _ _ _ _) (payload ed key nonce ad message) out

  passes : Legal key nonce ad message → length message + tag_size ≤ length out → sealing_judgement key nonce ad message out ≡ passed
  passes l room = clear_passed key nonce ad _ _ _ record {
    key_sized = l.key_sized;
    nonce_sized = l.nonce_sized;
    key_not_blank = l.key_not_blank;
    ad_fits = l.ad_fits;
    fits = le-ltb message_limit (length message) l.message_fits;
    reaches = refl;
    room = le-ltb (length out) (length message + tag_size) room;
    authentic = refl;
  }

  legal : sealing_judgement key nonce ad message out ≡ passed → Legal key nonce ad message × (length message + tag_size ≤ length out)
  legal e =
      let c = passed_clear key nonce ad _ _ _ e in (
        record { key_sized = c.key_sized; nonce_sized = c.nonce_sized; key_not_blank = c.key_not_blank; ad_fits = c.ad_fits; message_fits = ltb-false message_limit (length message) c.fits },
        ltb-false (length out) (length message + tag_size) c.room,
      )

  pub sealing : Sealing ed key nonce ad message out (sealed ed key nonce ad message out)
  sealing = any_sealing.sealing (Legal key nonce ad) (payload ed key nonce ad) tag_size message out _ _ (sealed-settled ed key nonce ad message out) passes legal

module _ (ed : Edition) (key nonce ad input out : List ℕ) where
  pub demand1_opening : Demand1 order (opening_row ed key nonce ad input out) (recovered ed key nonce ad input) out (opened ed key nonce ad input out)
  unfolding opened
  demand1_opening = demand1 order (opening_table ed key nonce ad input out) (tabled ad_limit key nonce ad _ _ _ _) (recovered ed key nonce ad input) out

  -- The key is not blank, and the sizes are in order.
  pub record InOrder : Type 0 where
    pub key_sized : length key ≡ key_size
    pub nonce_sized : length nonce ≡ nonce_size
    pub key_not_blank : key ≢ blank_key
    pub ad_fits : length ad ≤ ad_limit
    pub input_fits : length input ≤ message_limit + tag_size
    pub reaches : tag_size ≤ length input
    pub room : length input - tag_size ≤ length out

  pub legal-in_order : (m : List ℕ) → Legal key nonce ad m → length input ≡ length m + tag_size → length m ≤ length out → InOrder
  legal-in_order m l e room = record {
    key_sized = l.key_sized;
    nonce_sized = l.nonce_sized;
    key_not_blank = l.key_not_blank;
    ad_fits = l.ad_fits;
    input_fits = omega (arith, l.message_fits);
    reaches = omega arith;
    room = omega arith;
  }

  rows_pass : InOrder → opening_judgement key nonce ad input out ≡ passed
  rows_pass o = clear_passed key nonce ad _ _ _ record {
    key_sized = o.key_sized;
    nonce_sized = o.nonce_sized;
    key_not_blank = o.key_not_blank;
    ad_fits = o.ad_fits;
    fits = le-ltb (message_limit + tag_size) (length input) o.input_fits;
    reaches = le-ltb (length input) tag_size o.reaches;
    room = le-ltb (length out) (length input - tag_size) o.room;
    authentic = refl;
  }

  -- With these in order only row 7 is left.
  pub opening-tag : InOrder → opened ed key nonce ad input out ≡ cond (tag_differs ed key nonce ad input) (refused TagDiffers out) (success (recovered ed key nonce ad input) out)
  opening-tag o = any_opening.opening-tag (cipher ed key nonce ad) input out _ _ (opened-settled ed key nonce ad input out) (rows_pass o)

  pub verdict : InOrder → {agrees : Type 0} → Authentic ed key nonce ad input ↔ agrees → {message : List ℕ} → recovered ed key nonce ad input ≡ message
      → Verdict agrees message out (opened ed key nonce ad input out)
  verdict o = any_opening.verdict (cipher ed key nonce ad) input out _ _ (opened-settled ed key nonce ad input out) (rows_pass o)

  pub demand2 : Bytes input → Demand2 ed key nonce ad input out (opened ed key nonce ad input out)
  unfolding payload
  demand2 b =
      any_opening.demand2 (cipher ed key nonce ad) input out _ _ (opened-settled ed key nonce ad input out) (sound ed key nonce ad) b (Legal key nonce ad)
      (λ m l e room. rows_pass (legal-in_order m l e room)) fits
    where
      fits : opening_judgement key nonce ad input out ≡ passed → (m : List ℕ) → length input ≡ length m + tag_size → Legal key nonce ad m × (length m ≤ length out)
      fits e m long =
          let c = passed_clear key nonce ad _ _ _ e in (
            record { key_sized = c.key_sized; nonce_sized = c.nonce_sized; key_not_blank = c.key_not_blank; ad_fits = c.ad_fits; message_fits = omega (arith, ltb-false (message_limit + tag_size) (length input) c.fits) },
            omega (arith, ltb-false (length out) (length input - tag_size) c.room),
          )
