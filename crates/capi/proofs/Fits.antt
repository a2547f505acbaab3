-- The counts of sealing and opening, of adding a keystream, and of making and reading a frame, fit a signed number.
-- Assumes nothing.
use mathlib.Core.Path.{◌≡◌, refl, subst}
use mathlib.Core.Bool.{Bool, true, false}
use mathlib.Core.List.{List}
use Prim.Native.Nat.{ℕ, ◌+◌, ◌^◌, ◌<◌, ◌≤◌}
use native.Mathlib.Omega.{arith}
use lib.Dec.{lit<}
use lib.ListN.{length}
use Rattle.refusals.specs.declared.Refusal.TheVariants.{UnknownEdition}
use Rattle.refusals.specs.Outcome.{Outcome, refused}
use Rattle.refusals.specs.Signed.{capped}
use Rattle.refusals.proofs.Returned.{outcome_fits}
use Rattle.machine.specs.declared.edition.Edition.{Edition}
use Rattle.startup.specs.Naming.{known}
use Rattle.startup.proofs.Naming.{names}
use Rattle.payload.specs.Payload.{payload}
use Rattle.payload.proofs.Payload.{length-payload}
use Rattle.limits.specs.Limits.{message_limit}
use Rattle.grain128aead.specs.Demand2.{Sealing, Demand2}
use Rattle.grain128a.specs.Payload as tagged
use Rattle.grain128a.specs.Demand2 as grain128a
use Rattle.grain128a.proofs.Payload.{lengths}
use Rattle.untagged.specs.Crypting as untagged
use Rattle.grainv1.specs.Calls as grainv1
use Rattle.grainv1.proofs.Calls.{length-with_keystream}
use Rattle.named_edition.specs.Calls.{InNamed}
use Rattle.frame_checks.proofs.FieldCodes.{field_codes}
use Rattle.frames.specs.Field.{data_field}
use Rattle.frames.specs.Demand2.{Making}
use Rattle.frames.specs.Demand2 as frames
use Rattle.frames.proofs.Field.{sized}

limit_small : message_limit + 8 < 2 ^ 63
unfolding message_limit
limit_small = lit< tt

pub seal_fits : (e : Edition) (key nonce ad message out : List ℕ) (o : Outcome) → Sealing e key nonce ad message out o → capped o.answer ≡ o.answer
seal_fits e key nonce ad message out o s =
    outcome_fits o (λ a. let h = s.accepts.0 a in (payload e key nonce ad message, out, s.seals h.0 h.1, omega (arith, limit_small, h.0.message_fits, length-payload e key nonce ad message)))

pub open_fits : (e : Edition) (key nonce ad input out : List ℕ) (o : Outcome) → Demand2 e key nonce ad input out o → capped o.answer ≡ o.answer
open_fits e key nonce ad input out o d =
    outcome_fits o (λ a. let h = d.accepts.0 a in (h.0, out, d.returns h.0 h.1 h.2, omega (arith, limit_small, h.1.legal.message_fits)))

pub make_fits : (e : Edition) (key nonce : List ℕ) (identifier : ℕ) (message out : List ℕ) (o : Outcome) → Making e key nonce identifier message out o → capped o.answer ≡ o.answer
make_fits e key nonce identifier message out o s =
    outcome_fits o (λ a.
    let h = s.accepts.0 a in
    (data_field e key nonce identifier message, out, s.makes h.0 h.1, omega (arith, sized e key nonce identifier message h.0.message_fits, field_codes.within (length message) h.0.message_fits)))

pub read_fits : (e : Edition) (key nonce : List ℕ) (identifier code : ℕ) (field out : List ℕ) (o : Outcome) → frames.Demand2 e key nonce identifier code field out o → capped o.answer ≡ o.answer
read_fits e key nonce identifier code field out o d =
    outcome_fits o (λ a. let h = d.accepts.0 a in (h.0, out, d.returns h.0 h.1 h.2, omega (arith, h.1.legal.message_fits)))

-- With a tag of w bits, which is legal where a call accepts.
pub tagged_seal_fits : (w : ℕ) (key nonce message out : List ℕ) (o : Outcome) → grain128a.Sealing w key nonce message out o → capped o.answer ≡ o.answer
tagged_seal_fits w key nonce message out o s =
    outcome_fits o (λ a. let h = s.accepts.0 a in (tagged.payload w key nonce message, out, s.seals h.0 h.1, omega (arith, limit_small, h.0.message_fits, h.0.tag_fits, (lengths w key nonce message).payload)))

pub tagged_open_fits : (w : ℕ) (key nonce input out : List ℕ) (o : Outcome) → grain128a.Demand2 w key nonce input out o → capped o.answer ≡ o.answer
tagged_open_fits w key nonce input out o d =
    outcome_fits o (λ a. let h = d.accepts.0 a in (h.0, out, d.returns h.0 h.1 h.2, omega (arith, limit_small, h.1.legal.message_fits)))

-- Of any cipher that adds a keystream to messages up to the limit.
pub added_fits : (legal : List ℕ → Type 0) (with_keystream : List ℕ → List ℕ) → ((s : List ℕ) → legal s → length s ≤ message_limit) → ((s : List ℕ) → length (with_keystream s) ≡ length s)
    → (message out : List ℕ) (o : Outcome) → untagged.Crypting legal with_keystream message out o → capped o.answer ≡ o.answer
added_fits legal with_keystream limited long message out o s =
    outcome_fits o (λ a. let h = s.accepts.0 a in (with_keystream message, out, s.crypts h.0 h.1, omega (arith, limit_small, limited message h.0, long message)))

pub crypt_fits : (key nonce message out : List ℕ) (o : Outcome) → grain128a.Crypting key nonce message out o → capped o.answer ≡ o.answer
crypt_fits key nonce = added_fits (grain128a.LegalUnauthenticated key nonce) _ (λ s l. l.message_fits) (λ s. (lengths 0 key nonce s).with_keystream)

pub grainv1_fits : (key nonce message out : List ℕ) (o : Outcome) → grainv1.Crypting key nonce message out o → capped o.answer ≡ o.answer
grainv1_fits key nonce = added_fits (grainv1.Legal key nonce) _ (λ s l. l.message_fits) (length-with_keystream key nonce)

-- In the edition that a number names; where it names none, there is no count.
pub named_fits : (n : ℕ) (out : List ℕ) (o : Outcome) → (known n ≡ false → refused UnknownEdition out ≡ o) → InNamed n (λ e. capped o.answer ≡ o.answer) → capped o.answer ≡ o.answer
named_fits n out o unknown fits = go (known n) refl
  where
    go : (b : Bool) → known n ≡ b → capped o.answer ≡ o.answer
    go true e = let named = (names n).knows.0 e in fits named.0 named.1
    go false e = subst (λ (u : Outcome). capped u.answer ≡ u.answer) (unknown e) refl
