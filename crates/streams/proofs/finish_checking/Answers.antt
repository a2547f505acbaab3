-- `streams::finish_checking` meets its contract.
use mathlib.Core.Path.{refl}
use lib.ListN.{length}
use native.Mathlib.Omega.{arith}
use borrow.Author.Tests.{eqb-true, not-false}
use Rattle.payload.specs.Sizes.{tag_size}
use Rattle.limits.specs.Limits.{message_limit}
use Rattle.streams.specs.Calls.{FinishChecking}
use Rattle.streams.proofs.Engines.{tag_same, tag_differs_lem}
use Rattle.streams.proofs.Answered.{unsound, failed, differs, goes_on}
use Rattle.streams.proofs.Settled.{none_applies}
use Rattle.streams.proofs.finish_checking.Goals as goal

pub returns-in_err-x : goal.returns-in_err-x
returns-in_err-x c =
    unsound (FinishChecking c.args.tag.now) tt c.from_residual.result c.from_residual.ensures.1 c.in_err-x.ensures

pub returns-in_err-judge : goal.returns-in_err-judge
unfolding message_limit
returns-in_err-judge c =
    let judged = rw c.out_of_turn-out_of_turn.ensures at c.judge.ensures in
    failed (FinishChecking c.args.tag.now) tt c.in_ok-x.ensures judged c.from_residual-in_err-judge.result c.from_residual-in_err-judge.ensures.1 c.in_err-judge.was

pub returns-then-finish-number : goal.returns-then-finish-number
returns-then-finish-number c =
    let a = c.args in
    let judged = rw c.out_of_turn-out_of_turn.ensures at c.judge.ensures in
    let eight = eqb-true (length a.tag.now) tag_size (not-false _ (none_applies judged c.in_ok-judge.was).sized) in
    differs (FinishChecking a.tag.now) tt c.in_ok-x.ensures judged c.in_ok-judge.was
    (tag_differs_lem c.in_ok-x.x c.finish.result c.finish.ensures a.tag.now c.number.result eight (λ i. omega (arith, c.type_inv.tag i)) (omega (arith, c.finish.type_inv)) c.number.ensures c.if-finish-number.true)

pub returns : goal.returns
returns c =
    let a = c.args in
    let judged = rw c.out_of_turn-out_of_turn.ensures at c.judge.ensures in
    let eight = eqb-true (length a.tag.now) tag_size (not-false _ (none_applies judged c.in_ok-judge.was).sized) in
    let right = tag_same c.in_ok-x.x c.finish.result c.finish.ensures a.tag.now c.number.result eight (λ i. omega (arith, c.type_inv.tag i)) (omega (arith, c.finish.type_inv)) c.number.ensures c.if-finish-number.false in
    goes_on (FinishChecking a.tag.now) tt c.in_ok-x.ensures judged c.in_ok-judge.was right c.ended.result c.ended.ensures refl c.put.ensures.counted c.put.ensures.stored c.put.ensures.fits
