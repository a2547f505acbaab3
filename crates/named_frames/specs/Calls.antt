-- Making and reading a frame in the edition that the caller names by its number (document 02, C-11 and C-20). A number that names none is refusal
-- 23, before all others.
use Rattle.std.specs.Prelude.{◌≡◌, List, [], ◌∷◌, map, ℕ}
use Rattle.refusals.specs.declared.Refusal.{Refusal}
use Rattle.refusals.specs.declared.Refusal.TheVariants.{UnknownEdition}
use Rattle.refusals.specs.Refusals.{number, Row, among}
use Rattle.refusals.specs.Outcome.{Outcome, judged}
use Rattle.startup.specs.Naming.{named}
use Rattle.named_edition.specs.Calls.{with_edition}
use Rattle.frame_checks.specs.Order as order
use Rattle.frames.specs.Field.{data_field}
use Rattle.frames.specs.Calls as calls

abbrev pub making : List Refusal
making = UnknownEdition ∷ order.making

abbrev pub reading : List Refusal
reading = UnknownEdition ∷ order.reading

abbrev pub making_rows : (n : ℕ) → (key nonce : List ℕ) → (identifier : ℕ) → (message out : List ℕ) → List Row
making_rows n key nonce identifier message out = with_edition n (calls.making_rows key nonce identifier message out)

unfoldable pub made : (n : ℕ) → (key nonce : List ℕ) → (identifier : ℕ) → (message out : List ℕ) → Outcome
made n key nonce identifier message out =
    judged making (among (making_rows n key nonce identifier message out)) (data_field (named n) key nonce identifier message) out

abbrev pub reading_rows : (n : ℕ) → (key nonce : List ℕ) → (identifier code : ℕ) → (field out : List ℕ) → List Row
reading_rows n key nonce identifier code field out = with_edition n (calls.reading_rows (named n) key nonce identifier code field out)

unfoldable pub read : (n : ℕ) → (key nonce : List ℕ) → (identifier code : ℕ) → (field out : List ℕ) → Outcome
read n key nonce identifier code field out =
    judged reading (among (reading_rows n key nonce identifier code field out)) (calls.recovered (named n) key nonce identifier code field) out

-- 23 comes before the orders of the calls without a named edition.
pub record Numbered : Type 0 where
  pub of_making : map number making ≡ 23 ∷ 1 ∷ 2 ∷ 15 ∷ 8 ∷ 9 ∷ 6 ∷ []
  pub of_reading : map number reading ≡ 23 ∷ 1 ∷ 2 ∷ 15 ∷ 8 ∷ 10 ∷ 11 ∷ 12 ∷ 6 ∷ 7 ∷ []
