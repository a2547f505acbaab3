-- What it means that no row of a call applies.
-- Assumes nothing.
use mathlib.Core.Path.{◌≡◌, ap}
use mathlib.Core.Logic.{◌≢◌}
use mathlib.Core.Bool.{Bool, false, not}
use mathlib.Core.List.{List}
use Prim.Native.Nat.{ℕ, ◌≤◌}
use borrow.Author.Tests.{ltb-false, le-ltb, eqb-true, eq-eqb, not-false}
use lib.Dec.{eqb}
use lib.ListN.{length}
use Rattle.refusals.specs.declared.Refusal.{Refusal}
use Rattle.refusals.specs.declared.Refusal.TheVariants.{KeySize, NonceSize, AdTooLong, MessageTooLong, SealedTooShort, OutputTooShort, TagDiffers, BlankKey}
use Rattle.refusals.specs.Refusals.{among}
use Rattle.refusals.proofs.Rows.{quiet_none, quiet_row}
use Rattle.key.specs.Sizes.{key_size, nonce_size}
use Rattle.key.specs.BlankKey.{blank_key}
use Rattle.key.proofs.BlankKey.{not_blank, unequal_not_blank}
use Rattle.checks.specs.Rows.{table, rows}

pub record NoneApplies (limit : ℕ) (key nonce ad : List ℕ) (too_long too_short no_room wrong_tag : Bool) : Type 0 where
  pub key_sized : length key ≡ key_size
  pub nonce_sized : length nonce ≡ nonce_size
  pub key_not_blank : key ≢ blank_key
  pub ad_fits : length ad ≤ limit
  pub fits : too_long ≡ false
  pub reaches : too_short ≡ false
  pub room : no_room ≡ false
  pub authentic : wrong_tag ≡ false

module _ (limit : ℕ) (key nonce ad : List ℕ) (too_long too_short no_room wrong_tag : Bool) where
  pub rows_clear : ((r : Refusal) → rows limit key nonce ad too_long too_short no_room wrong_tag r ≡ false) → NoneApplies limit key nonce ad too_long too_short no_room wrong_tag
  unfolding table among
  rows_clear none = record {
    key_sized = eqb-true (length key) key_size (not-false (eqb (length key) key_size) (none KeySize));
    nonce_sized = eqb-true (length nonce) nonce_size (not-false (eqb (length nonce) nonce_size) (none NonceSize));
    key_not_blank = not_blank key (none BlankKey);
    ad_fits = ltb-false limit (length ad) (none AdTooLong);
    fits = none MessageTooLong;
    reaches = none SealedTooShort;
    room = none OutputTooShort;
    authentic = none TagDiffers;
  }

  pub clear_rows : NoneApplies limit key nonce ad too_long too_short no_room wrong_tag → (r : Refusal) → rows limit key nonce ad too_long too_short no_room wrong_tag r ≡ false
  unfolding table
  clear_rows clear =
      quiet_row _ _ (ap not (eq-eqb (length key) key_size clear.key_sized))
      (quiet_row _ _ (ap not (eq-eqb (length nonce) nonce_size clear.nonce_sized))
      (quiet_row _ _ (unequal_not_blank key clear.key_not_blank)
      (quiet_row _ _ (le-ltb limit (length ad) clear.ad_fits)
      (quiet_row _ _ clear.fits (quiet_row _ _ clear.reaches (quiet_row _ _ clear.room (quiet_row _ _ clear.authentic quiet_none)))))))
