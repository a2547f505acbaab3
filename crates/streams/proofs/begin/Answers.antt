-- `streams::begin` meets its contract.
use mathlib.Core.Path.{sym, ◌∙◌}
use Rattle.bits.proofs.Arrays.{unwrapped_same}
use Rattle.grain128aead.specs.Sizes.{ad_limit}
use native.Mathlib.Omega.{arith}
use Rattle.streams.proofs.Engines.{starts}
use Rattle.streams.proofs.Answered.{not_begun, began}
use Rattle.streams.proofs.Settled.{names_none, names_one, names_it, begins}
use Rattle.streams.proofs.begin.Goals as goal

pub returns-in_err-judge_begin : goal.returns-in_err-judge_begin
unfolding ad_limit
returns-in_err-judge_begin c =
    let judged = rw (names_none c.args.edition c.by_number-edition.ensures c.is_none-unknown.ensures) at c.judge_begin.ensures in
    not_begun {kind = c.args.kind} judged c.from_residual.result c.from_residual.ensures.1 c.in_err-judge_begin.was

pub unwrap-requires : goal.unwrap-requires
unfolding ad_limit
unwrap-requires c =
    let judged = rw (names_none c.args.edition c.by_number-edition.ensures c.is_none-unknown.ensures) at c.judge_begin.ensures in
    let b = begins c.args.kind c.args.edition c.args.key.now c.args.nonce.now c.args.announced c.args.state.now (sym judged ∙ c.in_ok-judge_begin.was) in
    names_one c.args.edition c.by_number-edition.ensures b.edition

pub unwrap-requires-2 : goal.unwrap-requires-2
unfolding ad_limit
unwrap-requires-2 c =
    let judged = rw (names_none c.args.edition c.by_number-edition.ensures c.is_none-unknown.ensures) at c.judge_begin.ensures in
    let b = begins c.args.kind c.args.edition c.args.key.now c.args.nonce.now c.args.announced c.args.state.now (sym judged ∙ c.in_ok-judge_begin.was) in
    c.try_into.ensures.0 b.key_sized

pub unwrap-requires-3 : goal.unwrap-requires-3
unfolding ad_limit
unwrap-requires-3 c =
    let judged = rw (names_none c.args.edition c.by_number-edition.ensures c.is_none-unknown.ensures) at c.judge_begin.ensures in
    let b = begins c.args.kind c.args.edition c.args.key.now c.args.nonce.now c.args.announced c.args.state.now (sym judged ∙ c.in_ok-judge_begin.was) in
    c.try_into-2.ensures.0 b.nonce_sized

pub overflow_cast-counts : goal.overflow_cast-counts
unfolding ad_limit
overflow_cast-counts c =
    let judged = rw (names_none c.args.edition c.by_number-edition.ensures c.is_none-unknown.ensures) at c.judge_begin.ensures in
    omega (arith, (begins c.args.kind c.args.edition c.args.key.now c.args.nonce.now c.args.announced c.args.state.now (sym judged ∙ c.in_ok-judge_begin.was)).ad_fits)

pub returns : goal.returns
unfolding ad_limit
returns c =
    let a = c.args in
    let judged = rw (names_none a.edition c.by_number-edition.ensures c.is_none-unknown.ensures) at c.judge_begin.ensures in
    let key_same = unwrapped_same c.try_into.ensures c.unwrap-2.ensures in
    let nonce_same = unwrapped_same c.try_into-2.ensures c.unwrap-3.ensures in
    began {kind = a.kind} judged c.in_ok-judge_begin.was _ (starts a.kind a.key.now a.nonce.now a.announced c.start-engine.result (names_it a.edition c.by_number-edition.ensures c.unwrap.ensures) (rw (key_same, nonce_same) at c.start-engine.ensures) c.number.ensures) c.put.ensures.counted c.put.ensures.stored c.put.ensures.fits
