-- Sealing and opening under the blank key.
-- Assumes nothing.
use mathlib.Core.Path.{◌≡◌, refl, ap, ◌∙◌}
use mathlib.Core.Bool.{Bool, true, false, cond, not}
use mathlib.Core.List.{List}
use Prim.Native.Nat.{ℕ}
use lib.Dec.{eqb}
use lib.ListN.{length}
use Rattle.bits.specs.Bytes.{same}
use Rattle.refusals.specs.declared.Refusal.TheVariants.{NonceSize, TagDiffers, BlankKey}
use Rattle.refusals.specs.Refusals.{Check, among, after, check}
use Rattle.std.specs.Prelude.{Err}
use Rattle.refusals.specs.Outcome.{settled}
use Rattle.machine.specs.declared.edition.Edition.{Edition}
use Rattle.key.specs.Sizes.{nonce_size}
use Rattle.key.specs.BlankKey.{blank_key, is_blank}
use Rattle.payload.specs.Payload.{payload}
use Rattle.checks.specs.Order.{before_tag}
use Rattle.checks.specs.Rows.{table}
use Rattle.grain128aead.specs.Calls.{recovered, tag_differs}
use Rattle.grain128aead.specs.Demand1.{UnderBlankKey}
use Rattle.grain128aead.proofs.Settled.{judgement, sealed-settled, opened-settled}

module _ (nonce ad : List ℕ) (too_long too_short no_room : Bool) where
  blank_judgement : judgement blank_key nonce ad too_long too_short no_room ≡ Err (cond (eqb (length nonce) nonce_size) BlankKey NonceSize)
  unfolding check before_tag table among blank_key is_blank same
  blank_judgement = go (eqb (length nonce) nonce_size)
    where
      go : (sized : Bool) → cond {A = Check} (not sized) (Err NonceSize) (Err BlankKey) ≡ Err (cond sized BlankKey NonceSize)
      go true = refl
      go false = refl

pub under_blank_key : (ed : Edition) (nonce ad out : List ℕ) → UnderBlankKey ed nonce ad out
unfolding settled
under_blank_key ed nonce ad out = record {
  sealing = λ message. sealed-settled ed blank_key nonce ad message out ∙ ap (λ (c : Check). settled c (payload ed blank_key nonce ad message) out) (blank_judgement nonce ad _ _ _);
  opening = λ input.
      opened-settled ed blank_key nonce ad input out
      ∙ ap (λ (c : Check). settled (after c TagDiffers (tag_differs ed blank_key nonce ad input)) (recovered ed blank_key nonce ad input) out) (blank_judgement nonce ad _ _ _);
}
