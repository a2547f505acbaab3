-- The orders' numbers and rows, and what it means that no row applies.
-- Assumes nothing.
use mathlib.Core.Path.{◌≡◌, refl, sym, ap, ap₂, ◌∙◌}
use mathlib.Core.Bool.{Bool, true, false, true≢false, not, ◌&&◌, beq}
use mathlib.Core.List.{List}
use Prim.Native.Nat.{ℕ, ◌≤◌}
use borrow.Author.Tests.{leb-true, le-leb, eqb-true, eq-eqb, not-false}
use lib.Dec.{eqb, leb}
use lib.ListN.{length}
use Rattle.refusals.specs.declared.Refusal.TheVariants.{KeySize, NonceSize, MessageTooLong, SealedTooShort, OutputTooShort, TagDiffers, BlankKey, NonceMode, TagLength}
use Rattle.refusals.specs.Refusals.{among}
use Rattle.refusals.proofs.Rows.{Quiet, quiet_none, quiet_row}
use Rattle.key.specs.Sizes.{key_size, nonce_size}
use Rattle.key.specs.BlankKey.{is_blank}
use Rattle.key.proofs.BlankKey.{not_blank, unequal_not_blank}
use Rattle.mode_checks.specs.Modes.{mode_bit, tag_limit, is_tag_length}
use Rattle.mode_checks.specs.Common.{Common}
use Rattle.mode_checks.specs.Order.{common, before_tag, authenticated, unauthenticated, Numbered}
use Rattle.mode_checks.specs.Rows.{common_rows, authenticated_rows, unauthenticated_rows, Tabled}

pub numbered : Numbered
unfolding authenticated unauthenticated before_tag common
numbered = record { authenticated = refl; unauthenticated = refl }

pub tabled : (key nonce : List ℕ) → Tabled key nonce
unfolding authenticated unauthenticated before_tag common authenticated_rows unauthenticated_rows common_rows
tabled key nonce = record { authenticated = λ w too_long too_short no_room wrong_tag. refl; unauthenticated = λ too_long no_room. refl }

same_bit : (a b : Bool) → not (beq a b) ≡ false → b ≡ a
same_bit true true e = refl
same_bit true false e = absurd (true≢false e)
same_bit false true e = absurd (true≢false e)
same_bit false false e = refl

bit_itself : (a : Bool) → not (beq a a) ≡ false
bit_itself true = refl
bit_itself false = refl

both : (a b : Bool) → (a && b) ≡ true → (a ≡ true) × (b ≡ true)
both true b e = (refl, e)
both false b e = absurd (true≢false (sym e))

-- The rows on key and nonce, where these are in order.
pub record CommonRows (key nonce : List ℕ) (mode : Bool) : Type 0 where
  pub key_sized : not (eqb (length key) key_size) ≡ false
  pub nonce_sized : not (eqb (length nonce) nonce_size) ≡ false
  pub key_not_blank : is_blank key ≡ false
  pub nonce_mode : not (beq mode (mode_bit nonce)) ≡ false

module _ {key nonce : List ℕ} {mode : Bool} where
  pub common_rows_lem : Common key nonce mode → CommonRows key nonce mode
  common_rows_lem a = record {
    key_sized = ap not (eq-eqb (length key) key_size a.key_sized);
    nonce_sized = ap not (eq-eqb (length nonce) nonce_size a.nonce_sized);
    key_not_blank = unequal_not_blank key a.key_not_blank;
    nonce_mode = ap (λ (b : Bool). not (beq mode b)) a.nonce_mode ∙ bit_itself mode;
  }

  pub rows-common : CommonRows key nonce mode → Common key nonce mode
  rows-common r = record {
    key_sized = eqb-true (length key) key_size (not-false (eqb (length key) key_size) r.key_sized);
    nonce_sized = eqb-true (length nonce) nonce_size (not-false (eqb (length nonce) nonce_size) r.nonce_sized);
    key_not_blank = not_blank key r.key_not_blank;
    nonce_mode = same_bit mode (mode_bit nonce) r.nonce_mode;
  }

-- ---- with authentication

pub record AuthenticatedClear (key nonce : List ℕ) (w : ℕ) (too_long too_short no_room wrong_tag : Bool) : Type 0 where
  pub common : Common key nonce true
  pub tag_some : 1 ≤ w
  pub tag_fits : w ≤ tag_limit
  pub fits : too_long ≡ false
  pub reaches : too_short ≡ false
  pub room : no_room ≡ false
  pub authentic : wrong_tag ≡ false

module _ (key nonce : List ℕ) (w : ℕ) (too_long too_short no_room wrong_tag : Bool) where
  pub authenticated_clear : Quiet (authenticated_rows key nonce w too_long too_short no_room wrong_tag) → AuthenticatedClear key nonce w too_long too_short no_room wrong_tag
  unfolding authenticated_rows common_rows among
  authenticated_clear none =
      let legal = both (leb 1 w) (leb w tag_limit) (not-false (is_tag_length w) (none TagLength)) in
      record {
        common = rows-common (record { key_sized = none KeySize; nonce_sized = none NonceSize; key_not_blank = none BlankKey; nonce_mode = none NonceMode });
        tag_some = leb-true 1 w legal.0;
        tag_fits = leb-true w tag_limit legal.1;
        fits = none MessageTooLong;
        reaches = none SealedTooShort;
        room = none OutputTooShort;
        authentic = none TagDiffers;
      }

  pub clear_authenticated : AuthenticatedClear key nonce w too_long too_short no_room wrong_tag → Quiet (authenticated_rows key nonce w too_long too_short no_room wrong_tag)
  unfolding authenticated_rows common_rows
  clear_authenticated c =
      let a = common_rows_lem c.common in
      quiet_row _ _ a.key_sized (quiet_row _ _ a.nonce_sized (quiet_row _ _ a.key_not_blank (quiet_row _ _ a.nonce_mode
      (quiet_row _ _ (ap₂ (λ (b d : Bool). not (b && d)) (le-leb 1 w c.tag_some) (le-leb w tag_limit c.tag_fits))
      (quiet_row _ _ c.fits (quiet_row _ _ c.reaches (quiet_row _ _ c.room (quiet_row _ _ c.authentic quiet_none))))))))

-- ---- without

pub record UnauthenticatedClear (key nonce : List ℕ) (too_long no_room : Bool) : Type 0 where
  pub common : Common key nonce false
  pub fits : too_long ≡ false
  pub room : no_room ≡ false

module _ (key nonce : List ℕ) (too_long no_room : Bool) where
  pub unauthenticated_clear : Quiet (unauthenticated_rows key nonce too_long no_room) → UnauthenticatedClear key nonce too_long no_room
  unfolding unauthenticated_rows common_rows among
  unauthenticated_clear none = record {
    common = rows-common (record { key_sized = none KeySize; nonce_sized = none NonceSize; key_not_blank = none BlankKey; nonce_mode = none NonceMode });
    fits = none MessageTooLong;
    room = none OutputTooShort;
  }

  pub clear_unauthenticated : UnauthenticatedClear key nonce too_long no_room → Quiet (unauthenticated_rows key nonce too_long no_room)
  unfolding unauthenticated_rows common_rows
  clear_unauthenticated c =
      let a = common_rows_lem c.common in
      quiet_row _ _ a.key_sized (quiet_row _ _ a.nonce_sized (quiet_row _ _ a.key_not_blank (quiet_row _ _ a.nonce_mode
      (quiet_row _ _ c.fits (quiet_row _ _ c.room quiet_none)))))
