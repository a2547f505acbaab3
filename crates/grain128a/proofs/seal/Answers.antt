-- `grain128a::seal` meets its contract.
use mathlib.Core.Path.{◌≡◌, refl}
use Prim.Native.Nat.{◌+◌, ◌≤◌}
use native.Mathlib.Omega.{arith}
use lib.ListN.{length}
use Rattle.bits.proofs.Arrays.{unwrapped_same}
use Rattle.bits.proofs.Written.{word-written}
use Rattle.refusals.specs.Refusals.{passed}
use Rattle.refusals.proofs.Returned.{handed_outcome}
use Rattle.limits.specs.Limits.{message_limit}
use Rattle.grain128a.specs.Payload.{tag_size}
use Rattle.grain128a.specs.Demand2.{Legal}
use Rattle.grain128a.proofs.Demand2.{demand1_sealing, sealing}
use Rattle.grain128a.proofs.Entry.{SealChecked, seal_failed, seal_legal, seal_passed}
use Rattle.grain128a.proofs.seal.Goals.{After-judge_authenticated}
use Rattle.grain128a.proofs.seal.Goals as goal

checked : (j : After-judge_authenticated) →
    let a = j.args in
    SealChecked a.tag_bits a.key.now a.nonce.now a.message.now a.out.now j.judge_authenticated.result
unfolding message_limit
checked j = record { checked = rw j.size-size.ensures at j.judge_authenticated.ensures }

-- All is legal, and there is room for the payload.
legal : (j : After-judge_authenticated) → j.judge_authenticated.result ≡ passed →
    let a = j.args in
    Legal a.tag_bits a.key.now a.nonce.now a.message.now × (length a.message.now + tag_size a.tag_bits ≤ length a.out.now)
legal j h = seal_legal (checked j) h

pub unwrap-requires : goal.unwrap-requires
unwrap-requires c =
    c.try_into.ensures.0 (legal (goal.at.unwrap-requires c).After-judge_authenticated c.in_ok-judge_authenticated.was).0.common.key_sized

pub unwrap-requires-2 : goal.unwrap-requires-2
unwrap-requires-2 c =
    c.try_into-2.ensures.0 (legal (goal.at.unwrap-requires-2 c).After-judge_authenticated c.in_ok-judge_authenticated.was).0.common.nonce_sized

pub overflow_add-end : goal.overflow_add-end
overflow_add-end c =
    omega (arith, (legal (goal.at.overflow_add-end c).After-judge_authenticated c.in_ok-judge_authenticated.was).1, c.size-size.ensures, c.well_formed)

pub finish-requires : goal.finish-requires
finish-requires c = (legal (goal.at.finish-requires c).After-judge_authenticated c.in_ok-judge_authenticated.was).0.tag_fits

pub slice_bounds-spell-end : goal.slice_bounds-spell-end
slice_bounds-spell-end c =
    omega (arith, c.encipher_all-done.auto, (legal (goal.at.slice_bounds-spell-end c).After-judge_authenticated c.in_ok-judge_authenticated.was).1, c.size-size.ensures)

pub returns-in_err-judge_authenticated : goal.returns-in_err-judge_authenticated
returns-in_err-judge_authenticated c =
    let left = handed_outcome c.from_residual.result c.from_residual.ensures.1 (seal_failed (checked (goal.at.returns-in_err-judge_authenticated c).After-judge_authenticated) c.in_err-judge_authenticated.was) in
    rw left (record { sealed = refl; demand1 = demand1_sealing _ _ _ _ _; demand2 = sealing _ _ _ _ _ })

pub returns : goal.returns
returns c =
    let a = c.args in
    let key_same = unwrapped_same c.try_into.ensures c.unwrap.ensures in
    let nonce_same = unwrapped_same c.try_into-2.ensures c.unwrap-2.ensures in
    let size = c.size-size.ensures in
    let left = seal_passed (checked (goal.at.returns c).After-judge_authenticated) c.in_ok-judge_authenticated.was (record { cuts = rw (key_same, nonce_same) at c.begin-begun.ensures }) c.encipher_all-done.ensures c.finish.ensures
    (rw size at (word-written _ (length a.message.now) c.size-size.result c.finish.result (omega (arith, c.encipher_all-done.auto, (legal (goal.at.returns c).After-judge_authenticated c.in_ok-judge_authenticated.was).1, size)) c.spell.ensures)) in
    rw (size, left) (record { sealed = refl; demand1 = demand1_sealing _ _ _ _ _; demand2 = sealing _ _ _ _ _ })
