-- The calls by the rows before the tag's, with the tag's row behind them.
-- Assumes nothing.
use mathlib.Core.Path.{◌≡◌, refl, ap}
use mathlib.Core.Bool.{Bool, false}
use mathlib.Core.List.{List}
use Prim.Native.Nat.{ℕ, ◌+◌, ◌-◌}
use lib.Dec.{ltb}
use lib.ListN.{length}
use Rattle.refusals.specs.declared.Refusal.TheVariants.{TagDiffers}
use Rattle.refusals.specs.Refusals.{Check, among, after, check, passed}
use Rattle.refusals.specs.Outcome.{settled, judged}
use Rattle.limits.specs.Limits.{message_limit}
use Rattle.checks.proofs.TagRow.{TagLast, check-rows, all-rows, passed_quiet, quiet_passed}
use Rattle.mode_checks.specs.Order.{common, before_tag, authenticated}
use Rattle.mode_checks.specs.Rows.{common_rows, authenticated_rows}
use Rattle.mode_checks.proofs.Rows.{tabled, AuthenticatedClear, authenticated_clear, clear_authenticated}
use Rattle.grain128a.specs.Payload.{tag_size, payload}
use Rattle.grain128a.specs.Calls.{sealed, recovered, tag_differs, opened}

-- What the rows before the tag's come to, whatever the tag.
abbrev pub judgement : (w : ℕ) → (key nonce : List ℕ) → (too_long too_short no_room : Bool) → Check
judgement w key nonce too_long too_short no_room = check before_tag (among (authenticated_rows key nonce w too_long too_short no_room false))

module _ (w : ℕ) (key nonce : List ℕ) (too_long too_short no_room : Bool) where
  tag-last : TagLast before_tag authenticated (authenticated_rows key nonce w too_long too_short no_room) (judgement w key nonce too_long too_short no_room)
  unfolding authenticated before_tag common authenticated_rows common_rows among check
  tag-last = record { ordered = refl; listed = (tabled key nonce).authenticated w too_long too_short no_room; front = λ differs. refl; last = λ differs. refl }

  pub passed_clear : judgement w key nonce too_long too_short no_room ≡ passed → AuthenticatedClear key nonce w too_long too_short no_room false
  passed_clear e = authenticated_clear key nonce w too_long too_short no_room false (passed_quiet tag-last e)

  pub clear_passed : AuthenticatedClear key nonce w too_long too_short no_room false → judgement w key nonce too_long too_short no_room ≡ passed
  clear_passed clear = quiet_passed tag-last (clear_authenticated key nonce w too_long too_short no_room false clear)

abbrev pub sealing_judgement : (w : ℕ) → (key nonce message out : List ℕ) → Check
sealing_judgement w key nonce message out = judgement w key nonce (ltb message_limit (length message)) false (ltb (length out) (length message + tag_size w))

abbrev pub opening_judgement : (w : ℕ) → (key nonce input out : List ℕ) → Check
opening_judgement w key nonce input out =
    judgement w key nonce (ltb (message_limit + tag_size w) (length input)) (ltb (length input) (tag_size w)) (ltb (length out) (length input - tag_size w))

pub sealed-settled : (w : ℕ) (key nonce message out : List ℕ) → sealed w key nonce message out ≡ settled (sealing_judgement w key nonce message out) (payload w key nonce message) out
unfolding sealed judged
sealed-settled w key nonce message out = ap (λ (c : Check). settled c (payload w key nonce message) out) (all-rows (tag-last w key nonce _ _ _))

pub opened-settled : (w : ℕ) (key nonce input out : List ℕ)
    → opened w key nonce input out ≡ settled (after (opening_judgement w key nonce input out) TagDiffers (tag_differs w key nonce input)) (recovered w key nonce input) out
unfolding opened judged
opened-settled w key nonce input out = ap (λ (c : Check). settled c (recovered w key nonce input) out) (check-rows (tag-last w key nonce _ _ _) (tag_differs w key nonce input))
