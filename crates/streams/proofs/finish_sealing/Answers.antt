-- `streams::finish_sealing` meets its contract.
use mathlib.Core.Path.{refl, sym}
use lib.ListN.{length}
use Rattle.limits.specs.Limits.{message_limit}
use borrow.Author.Tests.{ltb-false}
use lib.Seq.{length-take-le}
use Rattle.payload.specs.Sizes.{tag_size}
use Rattle.streams.specs.Calls.{FinishSealing}
use Rattle.streams.proofs.Engines.{tag-output}
use Rattle.streams.proofs.Answered.{unsound, failed, goes_on}
use Rattle.streams.proofs.Settled.{none_applies}
use Rattle.streams.proofs.finish_sealing.Goals as goal

pub returns-in_err-x : goal.returns-in_err-x
returns-in_err-x c =
    unsound (FinishSealing c.args.out.now) tt c.from_residual.result c.from_residual.ensures.1 c.in_err-x.ensures

pub returns-in_err-judge : goal.returns-in_err-judge
unfolding message_limit
returns-in_err-judge c =
    let judged = rw c.out_of_turn-out_of_turn.ensures at c.judge.ensures in
    failed (FinishSealing c.args.out.now) tt c.in_ok-x.ensures judged c.from_residual-in_err-judge.result c.from_residual-in_err-judge.ensures.1 c.in_err-judge.was

pub slice_bounds-spell-end : goal.slice_bounds-spell-end
slice_bounds-spell-end c =
    let judged = rw c.out_of_turn-out_of_turn.ensures at c.judge.ensures in
    ltb-false (length c.args.out.now) tag_size (none_applies judged c.in_ok-judge.was).room

pub slice_bounds-spell-end-2 : goal.slice_bounds-spell-end-2
slice_bounds-spell-end-2 c =
    let judged = rw c.out_of_turn-out_of_turn.ensures at c.judge.ensures in
    sym (length-take-le 8 c.args.out.now (ltb-false (length c.args.out.now) tag_size (none_applies judged c.in_ok-judge.was).room))

pub returns : goal.returns
returns c =
    let a = c.args in
    let judged = rw c.out_of_turn-out_of_turn.ensures at c.judge.ensures in
    let room = ltb-false (length a.out.now) tag_size (none_applies judged c.in_ok-judge.was).room in
    goes_on (FinishSealing a.out.now) tt c.in_ok-x.ensures judged c.in_ok-judge.was refl c.ended.result c.ended.ensures
    (tag-output c.in_ok-x.x c.finish.result c.finish.ensures a.out.now room c.spell.ensures) c.put.ensures.counted c.put.ensures.stored c.put.ensures.fits
