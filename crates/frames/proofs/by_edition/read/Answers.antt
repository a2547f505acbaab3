-- `frames::by_edition::read` meets its contract.
use mathlib.Core.Path.{refl}
use native.Mathlib.Omega.{arith}
use Rattle.bits.specs.Bytes.{Bytes}
use Rattle.refusals.proofs.Returned.{handed_outcome}
use Rattle.frames.proofs.Demand2.{demand1_reading}
use Rattle.frames.proofs.Promises.{reading}
use Rattle.frames.proofs.Entry.{ReadChecked, read_failed, read-holds, read_passed}
use Rattle.frames.proofs.by_edition.read.Goals.{After-judge_reading}
use Rattle.frames.proofs.by_edition.read.Goals as goal

checked : (j : After-judge_reading) →
    let a = j.args in
    ReadChecked a.key.now a.nonce.now a.identifier a.code a.field.now a.out.now j.judge_reading.result
checked j = record { checked = j.judge_reading.ensures }

is-bytes : (j : After-judge_reading) → Bytes j.args.field.now
is-bytes j i = omega (arith, j.type_inv.field i)

pub slice_bounds-open-end-2 : goal.slice_bounds-open-end-2
slice_bounds-open-end-2 c =
    omega (arith, c.announced.ensures, read-holds (checked (goal.at.slice_bounds-open-end-2 c).After-judge_reading) c.in_ok-judge_reading.was)

pub returns-in_err-judge_reading : goal.returns-in_err-judge_reading
returns-in_err-judge_reading c =
    let a = c.args in
    let left = handed_outcome c.from_residual.result c.from_residual.ensures.1 (read_failed (checked (goal.at.returns-in_err-judge_reading c).After-judge_reading) a.edition c.in_err-judge_reading.was) in
    rw left (record { read = refl; demand1 = demand1_reading _ _ _ _ _ _ _; promises = reading _ _ _ _ _ _ _ (is-bytes (goal.at.returns-in_err-judge_reading c).After-judge_reading) })

pub returns : goal.returns
returns c =
    let a = c.args in
    let left = read_passed (checked (goal.at.returns c).After-judge_reading) c.in_ok-judge_reading.was a.edition c.frame_ad-ad.result c.announced.result c.frame_ad-ad.ensures c.announced.ensures c.«open».ensures.opened in
    rw left (record { read = refl; demand1 = demand1_reading _ _ _ _ _ _ _; promises = reading _ _ _ _ _ _ _ (is-bytes (goal.at.returns c).After-judge_reading) })
