-- `streams::ciphertext` meets its contract.
use mathlib.Core.Path.{refl}
use lib.ListN.{length}
use Rattle.limits.specs.Limits.{message_limit}
use Rattle.streams.specs.Calls.{Ciphertext}
use Rattle.streams.proofs.Answered.{unsound, failed, goes_on}
use Rattle.streams.proofs.Engines.{deciphered}
use Rattle.streams.proofs.Settled.{message_fits_lem, none_applies}
use Rattle.streams.proofs.ciphertext.Goals as goal

pub returns-in_err-x : goal.returns-in_err-x
returns-in_err-x c =
    unsound (Ciphertext c.args.piece.now) tt c.from_residual.result c.from_residual.ensures.1 c.in_err-x.ensures

pub returns-in_err-judge : goal.returns-in_err-judge
unfolding message_limit
returns-in_err-judge c =
    let judged = rw (c.too_long-too_long.ensures, c.out_of_turn-out_of_turn.ensures) at c.judge.ensures in
    failed (Ciphertext c.args.piece.now) tt c.in_ok-x.ensures judged c.from_residual-in_err-judge.result c.from_residual-in_err-judge.ensures.1 c.in_err-judge.was

pub more_message-counts-requires : goal.more_message-counts-requires
unfolding message_limit
more_message-counts-requires c =
    let judged = rw (c.too_long-too_long.ensures, c.out_of_turn-out_of_turn.ensures) at c.judge.ensures in
    message_fits_lem c.in_ok-x.x.counts (length c.args.piece.now) (none_applies judged c.in_ok-judge.was).fits

pub returns : goal.returns
unfolding message_limit
returns c =
    let judged = rw (c.too_long-too_long.ensures, c.out_of_turn-out_of_turn.ensures) at c.judge.ensures in
    goes_on (Ciphertext c.args.piece.now) tt c.in_ok-x.ensures judged c.in_ok-judge.was refl _ (deciphered c.in_ok-x.x c.args.piece.now _ _ c.decipher_all-engine.ensures c.more_message-counts.ensures) refl c.put.ensures.counted c.put.ensures.stored c.put.ensures.fits
