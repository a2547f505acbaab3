-- Sealing and opening in each edition: from key, nonce, AD, message or sealed input and the lent output, byte strings of any length, to the
-- answer and the output afterwards (document 01, "When the box says no"; document 02, C-18).
use Rattle.std.specs.Prelude.{Bool, false, List, ℕ, ◌+◌, ◌-◌, ltb, length}
use Rattle.refusals.specs.declared.Refusal.{Refusal}
use Rattle.refusals.specs.Refusals.{Row, among}
use Rattle.refusals.specs.Outcome.{Outcome, judged}
use Rattle.tagged.specs.Payload as tagged
use Rattle.checks.specs.Order.{order}
use Rattle.checks.specs.Rows.{table}
use Rattle.machine.specs.declared.edition.Edition.{Edition}
use Rattle.payload.specs.Sizes.{tag_size}
use Rattle.payload.specs.Payload.{payload, cipher}
use Rattle.limits.specs.Limits.{message_limit}
use Rattle.grain128aead.specs.Sizes.{ad_limit}

-- Rows 5 and 7 do not apply to sealing.
abbrev pub sealing_table : (key nonce ad message out : List ℕ) → List Row
sealing_table key nonce ad message out =
    table ad_limit key nonce ad (ltb message_limit (length message)) false (ltb (length out) (length message + tag_size)) false

abbrev pub sealing_row : (key nonce ad message out : List ℕ) → Refusal → Bool
sealing_row key nonce ad message out = among (sealing_table key nonce ad message out)

unfoldable pub sealed : Edition → (key nonce ad message out : List ℕ) → Outcome
sealed e key nonce ad message out = judged order (sealing_row key nonce ad message out) (payload e key nonce ad message) out

-- The message of a sealed input.
abbrev pub recovered : Edition → (key nonce ad input : List ℕ) → List ℕ
recovered e key nonce ad = tagged.recovered (cipher e key nonce ad)

-- The tag differs from the recomputed one.
abbrev pub tag_differs : Edition → (key nonce ad input : List ℕ) → Bool
tag_differs e key nonce ad = tagged.tag_differs (cipher e key nonce ad)

abbrev pub opening_table : Edition → (key nonce ad input out : List ℕ) → List Row
opening_table e key nonce ad input out =
    table ad_limit key nonce ad (ltb (message_limit + tag_size) (length input)) (ltb (length input) tag_size) (ltb (length out) (length input - tag_size))
    (tag_differs e key nonce ad input)

abbrev pub opening_row : Edition → (key nonce ad input out : List ℕ) → Refusal → Bool
opening_row e key nonce ad input out = among (opening_table e key nonce ad input out)

unfoldable pub opened : Edition → (key nonce ad input out : List ℕ) → Outcome
opened e key nonce ad input out = judged order (opening_row e key nonce ad input out) (recovered e key nonce ad input) out
