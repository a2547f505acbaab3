-- The calls of Grain-128a: from key, nonce, tag length, message or sealed input and the lent output, byte strings of any length and any number
-- for the tag's bits, to the answer and the output afterwards (document 02, C-16).
use Rattle.std.specs.Prelude.{Bool, false, List, ℕ, ◌+◌, ◌-◌, ltb, length}
use Rattle.refusals.specs.Refusals.{Row, among}
use Rattle.refusals.specs.Outcome.{Outcome, judged}
use Rattle.limits.specs.Limits.{message_limit}
use Rattle.mode_checks.specs.Order.{authenticated, unauthenticated}
use Rattle.mode_checks.specs.Rows.{authenticated_rows, unauthenticated_rows}
use Rattle.tagged.specs.Payload as tagged
use Rattle.grain128a.specs.Payload.{tag_size, cipher, payload, with_keystream}

-- Rows 5 and 7 do not apply to sealing.
abbrev pub sealing_rows : (w : ℕ) → (key nonce message out : List ℕ) → List Row
sealing_rows w key nonce message out =
    authenticated_rows key nonce w (ltb message_limit (length message)) false (ltb (length out) (length message + tag_size w)) false

unfoldable pub sealed : (w : ℕ) → (key nonce message out : List ℕ) → Outcome
sealed w key nonce message out = judged authenticated (among (sealing_rows w key nonce message out)) (payload w key nonce message) out

-- The message of a sealed input, and whether its tag is another than the recomputed one.
abbrev pub recovered : (w : ℕ) → (key nonce input : List ℕ) → List ℕ
recovered w key nonce input = tagged.recovered (cipher w key nonce) input

abbrev pub tag_differs : (w : ℕ) → (key nonce input : List ℕ) → Bool
tag_differs w key nonce input = tagged.tag_differs (cipher w key nonce) input

abbrev pub opening_rows : (w : ℕ) → (key nonce input out : List ℕ) → List Row
opening_rows w key nonce input out =
    authenticated_rows key nonce w (ltb (message_limit + tag_size w) (length input)) (ltb (length input) (tag_size w)) (ltb (length out) (length input - tag_size w))
    (tag_differs w key nonce input)

unfoldable pub opened : (w : ℕ) → (key nonce input out : List ℕ) → Outcome
opened w key nonce input out = judged authenticated (among (opening_rows w key nonce input out)) (recovered w key nonce input) out

abbrev pub crypting_rows : (key nonce message out : List ℕ) → List Row
crypting_rows key nonce message out = unauthenticated_rows key nonce (ltb message_limit (length message)) (ltb (length out) (length message))

unfoldable pub crypted : (key nonce message out : List ℕ) → Outcome
crypted key nonce message out = judged unauthenticated (among (crypting_rows key nonce message out)) (with_keystream key nonce message) out
