-- `grain128aead::by_edition::seal` meets its contract.
use mathlib.Core.Path.{refl}
use native.Mathlib.Omega.{arith}
use lib.ListN.{length}
use Rattle.bits.proofs.Arrays.{unwrapped_same}
use Rattle.bits.proofs.Written.{word-written}
use Rattle.refusals.proofs.Returned.{handed_outcome}
use Rattle.limits.specs.Limits.{message_limit}
use Rattle.grain128aead.specs.Sizes.{ad_limit}
use Rattle.grain128aead.proofs.Demand2.{demand1_sealing, sealing}
use Rattle.grain128aead.proofs.Entry.{SealChecked, seal_failed, seal_clear, seal_room, seal_passed}
use Rattle.grain128aead.proofs.by_edition.seal.Goals.{After-judge}
use Rattle.grain128aead.proofs.by_edition.seal.Goals as goal

checked : (j : After-judge) →
    let a = j.args in
    SealChecked a.key.now a.nonce.now a.ad.now a.message.now a.out.now j.judge.result
unfolding ad_limit message_limit
checked j = record { checked = j.judge.ensures }

pub unwrap-requires : goal.unwrap-requires
unwrap-requires c =
    c.try_into.ensures.0 (seal_clear (checked (goal.at.unwrap-requires c).After-judge) c.in_ok-judge.was).key_sized

pub unwrap-requires-2 : goal.unwrap-requires-2
unwrap-requires-2 c =
    c.try_into-2.ensures.0 (seal_clear (checked (goal.at.unwrap-requires-2 c).After-judge) c.in_ok-judge.was).nonce_sized

pub overflow_add-end : goal.overflow_add-end
overflow_add-end c = omega (arith, seal_room (checked (goal.at.overflow_add-end c).After-judge) c.in_ok-judge.was, c.well_formed)

pub slice_bounds-spell-end : goal.slice_bounds-spell-end
slice_bounds-spell-end c =
    omega (arith, c.encipher_all-done.auto, seal_room (checked (goal.at.slice_bounds-spell-end c).After-judge) c.in_ok-judge.was)

pub returns-in_err-judge : goal.returns-in_err-judge
returns-in_err-judge c =
    let a = c.args in
    let left = handed_outcome c.from_residual.result c.from_residual.ensures.1 (seal_failed (checked (goal.at.returns-in_err-judge c).After-judge) a.edition c.in_err-judge.was) in
    rw left (record { sealed = refl; demand1 = demand1_sealing _ _ _ _ _ _; demand2 = sealing _ _ _ _ _ _ })

pub returns : goal.returns
returns c =
    let a = c.args in
    let key_same = unwrapped_same c.try_into.ensures c.unwrap.ensures in
    let nonce_same = unwrapped_same c.try_into-2.ensures c.unwrap-2.ensures in
    let left = seal_passed (checked (goal.at.returns c).After-judge) c.in_ok-judge.was a.edition c.begin-begun.result c.encipher_all-done.result c.finish.result
    (rw (key_same, nonce_same) at c.begin-begun.ensures) c.encipher_all-done.ensures c.finish.ensures (word-written _ (length a.message.now) 8 c.finish.result (omega (arith, c.encipher_all-done.auto, seal_room (checked (goal.at.returns c).After-judge) c.in_ok-judge.was)) c.spell.ensures) in
    rw left (record { sealed = refl; demand1 = demand1_sealing _ _ _ _ _ _; demand2 = sealing _ _ _ _ _ _ })
