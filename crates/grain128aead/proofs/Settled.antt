-- The calls by the rows before the tag's, with the tag's row behind them.
-- Assumes nothing.
use mathlib.Core.Path.{◌≡◌, refl, ap}
use mathlib.Core.Bool.{Bool, false}
use mathlib.Core.List.{List}
use Prim.Native.Nat.{ℕ, ◌+◌, ◌-◌}
use lib.Dec.{ltb}
use lib.ListN.{length}
use Rattle.refusals.specs.declared.Refusal.TheVariants.{TagDiffers}
use Rattle.refusals.specs.Refusals.{Check, among, after, check, passed}
use Rattle.refusals.specs.Outcome.{settled, judged}
use Rattle.machine.specs.declared.edition.Edition.{Edition}
use Rattle.payload.specs.Sizes.{tag_size}
use Rattle.payload.specs.Payload.{payload}
use Rattle.limits.specs.Limits.{message_limit}
use Rattle.grain128aead.specs.Sizes.{ad_limit}
use Rattle.checks.specs.Order.{before_tag, order}
use Rattle.checks.specs.Rows.{table, rows}
use Rattle.checks.proofs.Demand1.{tabled}
use Rattle.checks.proofs.TagRow.{TagLast, check-rows, all-rows, passed_quiet, quiet_passed}
use Rattle.checks.proofs.Rows.{NoneApplies, rows_clear, clear_rows}
use Rattle.grain128aead.specs.Calls.{sealed, recovered, tag_differs, opened}

-- What the rows before the tag's come to, whatever the tag.
abbrev pub judgement : (key nonce ad : List ℕ) → (too_long too_short no_room : Bool) → Check
judgement key nonce ad too_long too_short no_room = check before_tag (rows ad_limit key nonce ad too_long too_short no_room false)

abbrev pub sealing_judgement : (key nonce ad message out : List ℕ) → Check
sealing_judgement key nonce ad message out = judgement key nonce ad (ltb message_limit (length message)) false (ltb (length out) (length message + tag_size))

abbrev pub opening_judgement : (key nonce ad input out : List ℕ) → Check
opening_judgement key nonce ad input out =
    judgement key nonce ad (ltb (message_limit + tag_size) (length input)) (ltb (length input) tag_size) (ltb (length out) (length input - tag_size))

module _ (key nonce ad : List ℕ) (too_long too_short no_room : Bool) where
  pub tag-last : TagLast before_tag order (table ad_limit key nonce ad too_long too_short no_room) (judgement key nonce ad too_long too_short no_room)
  unfolding order before_tag table among check
  tag-last = record { ordered = refl; listed = tabled ad_limit key nonce ad too_long too_short no_room; front = λ differs. refl; last = λ differs. refl }

  -- The rows before the tag's pass exactly where none of them applies.
  pub passed_clear : judgement key nonce ad too_long too_short no_room ≡ passed → NoneApplies ad_limit key nonce ad too_long too_short no_room false
  passed_clear e = rows_clear ad_limit key nonce ad too_long too_short no_room false (passed_quiet tag-last e)

  pub clear_passed : NoneApplies ad_limit key nonce ad too_long too_short no_room false → judgement key nonce ad too_long too_short no_room ≡ passed
  clear_passed clear = quiet_passed tag-last (clear_rows ad_limit key nonce ad too_long too_short no_room false clear)

pub sealed-settled : (ed : Edition) (key nonce ad message out : List ℕ)
    → sealed ed key nonce ad message out ≡ settled (sealing_judgement key nonce ad message out) (payload ed key nonce ad message) out
unfolding sealed judged
sealed-settled ed key nonce ad message out = ap (λ (c : Check). settled c (payload ed key nonce ad message) out) (all-rows (tag-last key nonce ad _ _ _))

pub opened-settled : (ed : Edition) (key nonce ad input out : List ℕ)
    → opened ed key nonce ad input out
    ≡ settled (after (opening_judgement key nonce ad input out) TagDiffers (tag_differs ed key nonce ad input)) (recovered ed key nonce ad input) out
unfolding opened judged
opened-settled ed key nonce ad input out = ap (λ (c : Check). settled c (recovered ed key nonce ad input) out) (check-rows (tag-last key nonce ad _ _ _) (tag_differs ed key nonce ad input))
