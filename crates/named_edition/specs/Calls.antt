-- Sealing and opening in the edition that the caller names by its number (document 02, C-20). A number that names none is refusal 23, before
-- all others.
use Rattle.std.specs.Prelude.{◌≡◌, not, List, [], ◌∷◌, map, ℕ}
use Rattle.refusals.specs.declared.Refusal.{Refusal}
use Rattle.refusals.specs.declared.Refusal.TheVariants.{UnknownEdition}
use Rattle.refusals.specs.Refusals.{number, Row, ◌when◌}
use Rattle.refusals.specs.Refusals as refusals
use Rattle.refusals.specs.Outcome.{Outcome, judged}
use Rattle.machine.specs.declared.edition.Edition.{Edition}
use Rattle.startup.specs.Editions as editions
use Rattle.startup.specs.Naming.{known, named}
use Rattle.payload.specs.Payload.{payload}
use Rattle.checks.specs.Order as any_edition
use Rattle.grain128aead.specs.Calls.{sealing_table, opening_table, recovered}

abbrev pub order : List Refusal
order = UnknownEdition ∷ any_edition.order

-- The rows of a call with that of the edition before them.
abbrev pub with_edition : (n : ℕ) → List Row → List Row
with_edition n rows = (UnknownEdition when not (known n)) ∷ rows

abbrev pub sealing_rows : (n : ℕ) → (key nonce ad message out : List ℕ) → List Row
sealing_rows n key nonce ad message out = with_edition n (sealing_table key nonce ad message out)

unfoldable pub sealed : (n : ℕ) → (key nonce ad message out : List ℕ) → Outcome
sealed n key nonce ad message out =
    judged order (refusals.among (sealing_rows n key nonce ad message out)) (payload (named n) key nonce ad message) out

abbrev pub opening_rows : (n : ℕ) → (key nonce ad input out : List ℕ) → List Row
opening_rows n key nonce ad input out = with_edition n (opening_table (named n) key nonce ad input out)

unfoldable pub opened : (n : ℕ) → (key nonce ad input out : List ℕ) → Outcome
opened n key nonce ad input out =
    judged order (refusals.among (opening_rows n key nonce ad input out)) (recovered (named n) key nonce ad input) out

-- 23 comes before the order of the call without a named edition.
abbrev pub Numbered : Type 0
Numbered = map number order ≡ 23 ∷ 1 ∷ 2 ∷ 15 ∷ 3 ∷ 4 ∷ 5 ∷ 6 ∷ 7 ∷ []

-- What holds of each edition, of the one that a number names.
abbrev pub InNamed : (n : ℕ) → (Edition → Type 0) → Type 0
InNamed n holds = (e : Edition) → n ≡ editions.number e → holds e
