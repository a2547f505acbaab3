-- The first edition, which is meant where no edition is named: what is said of each edition, at this one.
use Rattle.std.specs.Prelude.{Bool, List, ℕ}
use Rattle.refusals.specs.declared.Refusal.{Refusal}
use Rattle.refusals.specs.Outcome.{Outcome}
use Rattle.machine.specs.declared.edition.Edition.TheVariants.{First}
use Rattle.payload.specs.Payload as payloads
use Rattle.checks.specs.Order.{order}
use Rattle.checks.specs.Demand1 as demand1
use Rattle.grain128aead.specs.Calls as calls
use Rattle.grain128aead.specs.Demand2 as demand2
use Rattle.grain128aead.specs.Demand3 as demand3
use Rattle.grain128aead.specs.Substitution as substitution

abbrev pub payload : (key nonce ad message : List ℕ) → List ℕ
payload = payloads.payload First

abbrev pub sealing_row : (key nonce ad message out : List ℕ) → Refusal → Bool
sealing_row = calls.sealing_row

abbrev pub sealed : (key nonce ad message out : List ℕ) → Outcome
sealed = calls.sealed First

abbrev pub recovered : (key nonce ad input : List ℕ) → List ℕ
recovered = calls.recovered First

abbrev pub opening_row : (key nonce ad input out : List ℕ) → Refusal → Bool
opening_row = calls.opening_row First

abbrev pub opened : (key nonce ad input out : List ℕ) → Outcome
opened = calls.opened First

abbrev pub Demand1 : (applies : Refusal → Bool) → (written out : List ℕ) → Outcome → Type 0
Demand1 = demand1.Demand1 order

abbrev pub Sealing : (key nonce ad message out : List ℕ) → Outcome → Type 0
Sealing = demand2.Sealing First

abbrev pub Demand2 : (key nonce ad input out : List ℕ) → Outcome → Type 0
Demand2 = demand2.Demand2 First

abbrev pub Demand3 : (key nonce ad input out : List ℕ) → Outcome → Type 0
Demand3 = demand3.Demand3 First

abbrev pub Substitution : (key nonce ad input out : List ℕ) → Outcome → Type 0
Substitution = substitution.Substitution First
