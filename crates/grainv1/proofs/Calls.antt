-- The call: demand 1, what it accepts and writes, and that twice gives the message back.
-- Assumes nothing.
use mathlib.Core.Path.{◌≡◌, refl, sym, subst, ap, ◌∙◌}
use mathlib.Core.Bool.{Bool}
use mathlib.Core.List.{List, ◌++◌}
use Prim.Native.Nat.{ℕ, ◌≤◌}
use lib.ListN.{length, drop}
use Rattle.bits.specs.Bytes.{Bytes, flip}
use Rattle.refusals.specs.declared.Refusal.{Refusal}
use Rattle.refusals.specs.Refusals.{Check, among, check, passed}
use Rattle.std.specs.Prelude.{Ok, Err}
use Rattle.refusals.specs.Outcome.{outcome, judged, settled}
use Rattle.refusals.proofs.LastRow.{settled_failed}
use Rattle.limits.specs.Limits.{message_limit}
use Rattle.checks.specs.Demand1.{Demand1}
use Rattle.checks.proofs.Demand1.{demand1, passed_quiet, quiet_passed}
use Rattle.generators.specs.Generator.{Generator}
use Rattle.generators.specs.Keystream.{added}
use Rattle.generators.proofs.Keystream.{flipping, length-added, added_twice}
use Rattle.untagged.proofs.Crypting as untagged
use Rattle.grainv1.specs.Functions.{grainv1}
use Rattle.grainv1.specs.StartUp.{initialised, with_keystream}
use Rattle.grainv1.specs.Rows.{order, rows}
use Rattle.grainv1.specs.Calls.{crypted, Legal, Crypting, Twice}
use Rattle.grainv1.proofs.Rows.{tabled, quiet_legal, legal_quiet}

abbrev pub judgement : (key nonce message out : List ℕ) → Check
judgement key nonce message out = check order (among (rows key nonce message out))

module _ (key nonce : List ℕ) where
  pub length-with_keystream : (s : List ℕ) → length (with_keystream key nonce s) ≡ length s
  unfolding with_keystream
  length-with_keystream s = length-added grainv1 flipping 1 (initialised key nonce) s

  with_keystream_twice : (s : List ℕ) → Bytes s → with_keystream key nonce (with_keystream key nonce s) ≡ s
  unfolding with_keystream
  with_keystream_twice s b = added_twice grainv1 flipping 1 (initialised key nonce) s b

  module _ (message out : List ℕ) where
    pub passed_legal : judgement key nonce message out ≡ passed → Legal key nonce message × (length message ≤ length out)
    passed_legal e = quiet_legal key nonce message out (passed_quiet order (rows key nonce message out) (tabled key nonce message out) e)

    settles : crypted key nonce message out ≡ settled (judgement key nonce message out) (with_keystream key nonce message) out
    unfolding crypted judged
    settles = refl

    pub crypting : Crypting key nonce message out (crypted key nonce message out)
    crypting =
        untagged.crypting (Legal key nonce) (with_keystream key nonce) message out (judgement key nonce message out) (crypted key nonce message out) settles
        (λ l room. quiet_passed order (rows key nonce message out) (tabled key nonce message out) (legal_quiet key nonce message out l room)) passed_legal

    pub demanded : Demand1 order (among (rows key nonce message out)) (with_keystream key nonce message) out (crypted key nonce message out)
    unfolding crypted
    demanded = demand1 order (rows key nonce message out) (tabled key nonce message out) (with_keystream key nonce message) out

    -- What the code leaves after a failed check, and after one that passed.
    pub crypt_failed : {r : Refusal} → judgement key nonce message out ≡ Err r → outcome (Err r) out ≡ crypted key nonce message out
    crypt_failed e = settled_failed (judgement key nonce message out) (with_keystream key nonce message) out settles e

    pub crypt_passed : {g : Generator Bool} {written : List ℕ} → judgement key nonce message out ≡ passed → g ≡ initialised key nonce
        → written ≡ added grainv1 flip 1 g message ++ drop (length message) out → outcome (Ok (length message)) written ≡ crypted key nonce message out
    unfolding with_keystream
    crypt_passed e eg ew =
        untagged.crypted-output (with_keystream key nonce) length-with_keystream message out (judgement key nonce message out) (crypted key nonce message out) settles e
        (ew ∙ ap (λ (h : Generator Bool). added grainv1 flip 1 h message ++ drop (length message) out) eg)

pub twice : Twice
twice key nonce =
    untagged.twice (Legal key nonce) (with_keystream key nonce) (crypted key nonce) (crypting key nonce) (length-with_keystream key nonce) (with_keystream_twice key nonce)
    (λ s t same l. record { key_sized = l.key_sized; nonce_sized = l.nonce_sized; message_fits = subst (λ (n : ℕ). n ≤ message_limit) (sym same) l.message_fits })
