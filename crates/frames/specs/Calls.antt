-- Making and reading a frame in each edition: from key, nonce, identifier, message or code and data field, and the lent output, to the answer
-- and the output afterwards (document 02, C-11 and C-18).
use Rattle.std.specs.Prelude.{Bool, List, ℕ, length}
use Rattle.refusals.specs.Refusals.{Row, among}
use Rattle.refusals.specs.Outcome.{Outcome, judged}
use Rattle.machine.specs.declared.edition.Edition.{Edition}
use Rattle.grain128aead.specs.Calls as cipher
use Rattle.frame_checks.specs.Layout.{sealed_part}
use Rattle.frame_checks.specs.Order.{making, reading}
use Rattle.frame_checks.specs.Rows as rows
use Rattle.frames.specs.Field.{frame_ad, data_field}

abbrev pub making_rows : (key nonce : List ℕ) → (identifier : ℕ) → (message out : List ℕ) → List Row
making_rows key nonce identifier message out = rows.making_rows key nonce identifier (length message) (length out)

unfoldable pub made : Edition → (key nonce : List ℕ) → (identifier : ℕ) → (message out : List ℕ) → Outcome
made e key nonce identifier message out =
    judged making (among (making_rows key nonce identifier message out)) (data_field e key nonce identifier message) out

-- The message of a field.
unfoldable pub recovered : Edition → (key nonce : List ℕ) → (identifier code : ℕ) → (field : List ℕ) → List ℕ
recovered e key nonce identifier code field = cipher.recovered e key nonce (frame_ad identifier code) (sealed_part field)

-- Its tag differs from the recomputed one.
unfoldable pub wrong_tag : Edition → (key nonce : List ℕ) → (identifier code : ℕ) → (field : List ℕ) → Bool
wrong_tag e key nonce identifier code field = cipher.tag_differs e key nonce (frame_ad identifier code) (sealed_part field)

abbrev pub reading_rows : Edition → (key nonce : List ℕ) → (identifier code : ℕ) → (field out : List ℕ) → List Row
reading_rows e key nonce identifier code field out =
    rows.reading_rows key nonce identifier code field (length out) (wrong_tag e key nonce identifier code field)

unfoldable pub read : Edition → (key nonce : List ℕ) → (identifier code : ℕ) → (field out : List ℕ) → Outcome
read e key nonce identifier code field out =
    judged reading (among (reading_rows e key nonce identifier code field out)) (recovered e key nonce identifier code field) out
