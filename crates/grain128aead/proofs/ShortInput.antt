-- Opening an input too short to have a tag.
-- Assumes nothing.
use mathlib.Core.Path.{◌≡◌, sym, ap, ◌∙◌}
use mathlib.Core.Bool.{true, false, true≢false}
use Prim.Native.Nat.{◌+◌, ◌-◌}
use native.Mathlib.Omega.{arith}
use borrow.Author.Tests.{lt-ltb, le-ltb}
use lib.ListN.{length}
use Rattle.refusals.specs.declared.Refusal.TheVariants.{TagDiffers}
use Rattle.refusals.specs.Refusals.{Check, after}
use Rattle.refusals.specs.Outcome.{settled, judged}
use Rattle.refusals.proofs.LastRow.{settled_earlier}
use Rattle.payload.specs.Sizes.{tag_size}
use Rattle.limits.specs.Limits.{message_limit}
use Rattle.grain128aead.specs.Calls.{recovered, tag_differs}
use Rattle.grain128aead.specs.Demand1.{ShortInput}
use Rattle.checks.proofs.TagRow.{check-rows}
use Rattle.grain128aead.proofs.Settled.{judgement, opening_judgement, tag-last, passed_clear, opened-settled}

pub short_input : ShortInput
unfolding judged
short_input ed key nonce ad input out h wrong_tag message =
    opened-settled ed key nonce ad input out
    ∙ ap (λ (c : Check). settled (after c TagDiffers (tag_differs ed key nonce ad input)) (recovered ed key nonce ad input) out) sizes
    ∙ settled_earlier (judgement key nonce ad false true false) TagDiffers (tag_differs ed key nonce ad input) wrong_tag (recovered ed key nonce ad input) message out
    (λ e. true≢false (passed_clear key nonce ad false true false e).reaches)
    ∙ sym (ap (λ (c : Check). settled c message out) (check-rows (tag-last key nonce ad false true false) wrong_tag))
  where
    sizes : opening_judgement key nonce ad input out ≡ judgement key nonce ad false true false
    sizes = simp (le-ltb (message_limit + tag_size) (length input) (omega arith), lt-ltb (length input) tag_size h, le-ltb (length out) (length input - tag_size) (omega arith))
