-- `streams::ad` meets its contract.
use mathlib.Core.Path.{refl}
use native.Mathlib.Omega.{arith}
use lib.ListN.{length}
use Rattle.stream_checks.proofs.Turns.{ad-in_turn}
use Rattle.streams.specs.Calls.{Ad}
use Rattle.streams.proofs.Answered.{unsound, failed, goes_on}
use Rattle.streams.proofs.Engines.{absorbed}
use Rattle.streams.proofs.Settled.{none_applies}
use Rattle.streams.proofs.ad.Goals as goal

pub returns-in_err-x : goal.returns-in_err-x
returns-in_err-x c =
    unsound (Ad c.args.kind c.args.piece.now) tt c.from_residual.result c.from_residual.ensures.1 c.in_err-x.ensures

pub returns-in_err-judge : goal.returns-in_err-judge
returns-in_err-judge c =
    let judged = rw c.ad_out_of_turn-out_of_turn.ensures at c.judge.ensures in
    failed (Ad c.args.kind c.args.piece.now) tt c.in_ok-x.ensures judged c.from_residual-in_err-judge.result c.from_residual-in_err-judge.ensures.1 c.in_err-judge.was

pub more_ad-counts-requires : goal.more_ad-counts-requires
more_ad-counts-requires c =
    let judged = rw c.ad_out_of_turn-out_of_turn.ensures at c.judge.ensures in
    let inside = (ad-in_turn c.args.kind c.in_ok-x.x.counts (length c.args.piece.now) (none_applies judged c.in_ok-judge.was).in_turn).1 in
    omega (arith, inside)

pub returns : goal.returns
returns c =
    let judged = rw c.ad_out_of_turn-out_of_turn.ensures at c.judge.ensures in
    goes_on (Ad c.args.kind c.args.piece.now) tt c.in_ok-x.ensures judged c.in_ok-judge.was refl _ (absorbed c.in_ok-x.x c.args.piece.now _ _ c.absorb_all-engine.ensures c.more_ad-counts.ensures) refl c.put.ensures.counted c.put.ensures.stored c.put.ensures.fits
