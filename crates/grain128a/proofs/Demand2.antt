-- Demands 1 and 2: the rows decide, opening accepts exactly what some message makes, and what the mode without authentication writes.
-- Assumes nothing.
use mathlib.Core.Path.{◌≡◌, refl}
use mathlib.Core.List.{List}
use Prim.Native.Nat.{ℕ, ◌+◌, ◌-◌, ◌≤◌}
use native.Mathlib.Omega.{arith}
use borrow.Author.Tests.{ltb-false, le-ltb}
use lib.ListN.{length}
use Rattle.bits.specs.Bytes.{Bytes}
use Rattle.refusals.specs.Refusals.{among, check, passed}
use Rattle.refusals.specs.Outcome.{judged}
use Rattle.limits.specs.Limits.{message_limit}
use Rattle.checks.specs.Demand1.{Demand1}
use Rattle.checks.proofs.Demand1.{demand1, passed_quiet, quiet_passed}
use Rattle.mode_checks.specs.Order as order
use Rattle.mode_checks.proofs.Rows.{tabled, unauthenticated_clear, clear_unauthenticated}
use Rattle.tagged.proofs.Sealing as sealings
use Rattle.tagged.proofs.Opening as openings
use Rattle.untagged.proofs.Crypting as untagged
use Rattle.grain128a.specs.Payload.{tag_size, cipher, payload, with_keystream}
use Rattle.grain128a.specs.Calls.{sealing_rows, sealed, recovered, opening_rows, opened, crypting_rows, crypted}
use Rattle.grain128a.specs.Demand2.{Legal, Sealing, Demand2, LegalUnauthenticated, Crypting}
use Rattle.grain128a.proofs.Payload.{sound}
use Rattle.grain128a.proofs.Settled.{sealing_judgement, opening_judgement, passed_clear, clear_passed, sealed-settled, opened-settled}

module _ (w : ℕ) (key nonce message out : List ℕ) where
  pub demand1_sealing : Demand1 order.authenticated (among (sealing_rows w key nonce message out)) (payload w key nonce message) out (sealed w key nonce message out)
  unfolding sealed
  demand1_sealing = demand1 order.authenticated (sealing_rows w key nonce message out) ((tabled key nonce).authenticated w _ _ _ _) (payload w key nonce message) out

  pub sealing_fits : sealing_judgement w key nonce message out ≡ passed → Legal w key nonce message × (length message + tag_size w ≤ length out)
  sealing_fits e =
      let c = passed_clear w key nonce _ _ _ e in (
        record { common = c.common; tag_some = c.tag_some; tag_fits = c.tag_fits; message_fits = ltb-false message_limit (length message) c.fits },
        ltb-false (length out) (length message + tag_size w) c.room,
      )

  sealing-passes : Legal w key nonce message → length message + tag_size w ≤ length out → sealing_judgement w key nonce message out ≡ passed
  sealing-passes l room = clear_passed w key nonce _ _ _ record {
    common = l.common;
    tag_some = l.tag_some;
    tag_fits = l.tag_fits;
    fits = le-ltb message_limit (length message) l.message_fits;
    reaches = refl;
    room = le-ltb (length out) (length message + tag_size w) room;
    authentic = refl;
  }

  pub sealing : Sealing w key nonce message out (sealed w key nonce message out)
  sealing =
      sealings.sealing (Legal w key nonce) (payload w key nonce) (tag_size w) message out (sealing_judgement w key nonce message out) (sealed w key nonce message out)
      (sealed-settled w key nonce message out) sealing-passes sealing_fits

module _ (w : ℕ) (key nonce input out : List ℕ) where
  pub demand1_opening : Demand1 order.authenticated (among (opening_rows w key nonce input out)) (recovered w key nonce input) out (opened w key nonce input out)
  unfolding opened
  demand1_opening = demand1 order.authenticated (opening_rows w key nonce input out) ((tabled key nonce).authenticated w _ _ _ _) (recovered w key nonce input) out

  pub opening-passes : (m : List ℕ) → Legal w key nonce m → length input ≡ length m + tag_size w → length m ≤ length out → opening_judgement w key nonce input out ≡ passed
  opening-passes m l e room = clear_passed w key nonce _ _ _ record {
    common = l.common;
    tag_some = l.tag_some;
    tag_fits = l.tag_fits;
    fits = le-ltb (message_limit + tag_size w) (length input) (omega (arith, l.message_fits));
    reaches = le-ltb (length input) (tag_size w) (omega arith);
    room = le-ltb (length out) (length input - tag_size w) (omega arith);
    authentic = refl;
  }

  opening_fits : opening_judgement w key nonce input out ≡ passed → (m : List ℕ) → length input ≡ length m + tag_size w → Legal w key nonce m × (length m ≤ length out)
  opening_fits p m e =
      let c = passed_clear w key nonce _ _ _ p in (
        record {
          common = c.common;
          tag_some = c.tag_some;
          tag_fits = c.tag_fits;
          message_fits = omega (arith, ltb-false (message_limit + tag_size w) (length input) c.fits);
        },
        omega (arith, ltb-false (length out) (length input - tag_size w) c.room),
      )

  pub demand2 : Bytes input → Demand2 w key nonce input out (opened w key nonce input out)
  unfolding cipher payload
  demand2 b =
      openings.demand2 (cipher w key nonce) input out (opening_judgement w key nonce input out) (opened w key nonce input out) (opened-settled w key nonce input out)
      (sound w key nonce) b (Legal w key nonce) opening-passes opening_fits

-- ---- without authentication

module _ (key nonce message out : List ℕ) where
  pub demand1_crypting : Demand1 order.unauthenticated (among (crypting_rows key nonce message out)) (with_keystream key nonce message) out (crypted key nonce message out)
  unfolding crypted
  demand1_crypting = demand1 order.unauthenticated (crypting_rows key nonce message out) ((tabled key nonce).unauthenticated _ _) (with_keystream key nonce message) out

  pub crypting_fits : check order.unauthenticated (among (crypting_rows key nonce message out)) ≡ passed → LegalUnauthenticated key nonce message × (length message ≤ length out)
  crypting_fits e =
      let c = unauthenticated_clear key nonce _ _ (passed_quiet order.unauthenticated (crypting_rows key nonce message out) ((tabled key nonce).unauthenticated _ _) e) in
      (record { common = c.common; message_fits = ltb-false message_limit (length message) c.fits }, ltb-false (length out) (length message) c.room)

  crypting_passes : LegalUnauthenticated key nonce message → length message ≤ length out → check order.unauthenticated (among (crypting_rows key nonce message out)) ≡ passed
  crypting_passes l room =
      quiet_passed order.unauthenticated (crypting_rows key nonce message out) ((tabled key nonce).unauthenticated _ _)
      (clear_unauthenticated key nonce _ _ record { common = l.common; fits = le-ltb message_limit (length message) l.message_fits; room = le-ltb (length out) (length message) room })

  pub crypting : Crypting key nonce message out (crypted key nonce message out)
  unfolding crypted judged
  crypting = untagged.crypting (LegalUnauthenticated key nonce) (with_keystream key nonce) message out _ (crypted key nonce message out) refl crypting_passes crypting_fits
