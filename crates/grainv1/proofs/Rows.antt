-- The order's numbers and rows, and what it means that no row applies.
-- Assumes nothing.
use mathlib.Core.Path.{refl, ap}
use mathlib.Core.Bool.{not}
use mathlib.Core.List.{List}
use Prim.Native.Nat.{ℕ, ◌≤◌}
use borrow.Author.Tests.{eqb-true, eq-eqb, not-false, ltb-false, le-ltb}
use lib.Dec.{eqb}
use lib.ListN.{length}
use Rattle.refusals.specs.declared.Refusal.TheVariants.{KeySize, NonceSize, MessageTooLong, OutputTooShort}
use Rattle.refusals.specs.Refusals.{among}
use Rattle.refusals.proofs.Rows.{Quiet, quiet_none, quiet_row}
use Rattle.limits.specs.Limits.{message_limit}
use Rattle.grainv1.specs.Sizes.{key_size, nonce_size}
use Rattle.grainv1.specs.Rows.{order, Numbered, rows, Tabled}
use Rattle.grainv1.specs.Calls.{Legal}

pub numbered : Numbered
unfolding order
numbered = refl

pub tabled : Tabled
unfolding order rows
tabled key nonce message out = refl

module _ (key nonce message out : List ℕ) where
  pub quiet_legal : Quiet (rows key nonce message out) → Legal key nonce message × (length message ≤ length out)
  unfolding rows among
  quiet_legal none = (
    record {
      key_sized = eqb-true (length key) key_size (not-false (eqb (length key) key_size) (none KeySize));
      nonce_sized = eqb-true (length nonce) nonce_size (not-false (eqb (length nonce) nonce_size) (none NonceSize));
      message_fits = ltb-false message_limit (length message) (none MessageTooLong);
    },
    ltb-false (length out) (length message) (none OutputTooShort),
  )

  pub legal_quiet : Legal key nonce message → length message ≤ length out → Quiet (rows key nonce message out)
  unfolding rows
  legal_quiet l room =
      quiet_row _ _ (ap not (eq-eqb (length key) key_size l.key_sized)) (quiet_row _ _ (ap not (eq-eqb (length nonce) nonce_size l.nonce_sized))
      (quiet_row _ _ (le-ltb message_limit (length message) l.message_fits) (quiet_row _ _ (le-ltb (length out) (length message) room) quiet_none)))
