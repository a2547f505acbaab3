-- `frames::by_edition::make` meets its contract.
use mathlib.Core.Path.{◌≡◌, refl, ap, ◌∙◌}
use Prim.Native.Nat.{◌+◌, ◌-◌}
use native.Mathlib.Omega.{arith}
use borrow.Rule.Slice.PartMut.{put_mid, same_len_mid}
use lib.ListN.{length, set}
use Rattle.refusals.proofs.Returned.{handed_outcome}
use Rattle.frames.specs.Field.{frame_ad}
use Rattle.frames.proofs.Demand2.{demand1_making, making}
use Rattle.frames.proofs.Entry.{set_room, part_kept, MakeChecked, make_failed, make_clear, make_holds, make_seals, make_passed}
use Rattle.frames.proofs.by_edition.make.Goals.{After-judge_making, After-seal}
use Rattle.frames.proofs.by_edition.make.Goals as goal

checked : (j : After-judge_making) →
    let a = j.args in
    MakeChecked a.key.now a.nonce.now a.identifier a.message.now a.out.now j.judge_making.result
checked j = record { checked = j.judge_making.ensures }

-- The output with that byte and what sealing has written has its length.
kept : (s : After-seal) →
    let a = s.args in
    length (put_mid 1 (length a.message.now + 9 - 1) (set a.out.now 0 (length a.message.now)) s.seal.new.out) ≡ length a.out.now
kept s =
    let a = s.args in
    part_kept a.out.now (length a.message.now) (length a.message.now + 9 - 1) s.seal.new.out s.seal.auto.out

pub overflow_cast-out : goal.overflow_cast-out
overflow_cast-out c =
    record { fits = omega (arith, (make_clear (checked (goal.at.overflow_cast-out c).After-judge_making) c.in_ok-judge_making.was).message_fits) }

pub bounds-out-0 : goal.bounds-out-0
bounds-out-0 c =
    let j = checked (goal.at.bounds-out-0 c).After-judge_making in
    omega (arith, make_holds j c.in_ok-judge_making.was, (make_clear j c.in_ok-judge_making.was).fits)

pub slice_bounds-seal-end-2 : goal.slice_bounds-seal-end-2
slice_bounds-seal-end-2 c =
    let j = checked (goal.at.slice_bounds-seal-end-2 c).After-judge_making in
    set_room c.args.out.now (length c.args.message.now) (omega (arith, make_holds j c.in_ok-judge_making.was, (make_clear j c.in_ok-judge_making.was).fits))

pub unwrap-requires : goal.unwrap-requires
unwrap-requires c =
    make_seals (checked (goal.at.unwrap-requires c).After-judge_making) c.in_ok-judge_making.was c.args.edition c.frame_ad-ad.result
    (c.frame_ad-ad.ensures ∙ ap (frame_ad c.args.identifier) c.field_code.ensures) c.seal.ensures.sealed

pub slice_bounds-spell-count : goal.slice_bounds-spell-count
slice_bounds-spell-count c =
    omega (arith, c.field_size-size.ensures, make_holds (checked (goal.at.slice_bounds-spell-count c).After-judge_making) c.in_ok-judge_making.was)

pub slice_bounds-spell-start : goal.slice_bounds-spell-start
slice_bounds-spell-start c =
    omega (arith, c.field_size-size.ensures, make_holds (checked (goal.at.slice_bounds-spell-start c).After-judge_making) c.in_ok-judge_making.was)

pub slice_bounds-spell-end : goal.slice_bounds-spell-end
slice_bounds-spell-end c =
    omega (arith, kept (goal.at.slice_bounds-spell-end c).After-seal, c.field_size-size.ensures, (make_clear (checked (goal.at.slice_bounds-spell-end c).After-judge_making) c.in_ok-judge_making.was).fits)

pub returns-in_err-judge_making : goal.returns-in_err-judge_making
returns-in_err-judge_making c =
    let a = c.args in
    let left = handed_outcome c.from_residual.result c.from_residual.ensures.1 (make_failed (checked (goal.at.returns-in_err-judge_making c).After-judge_making) a.edition c.in_err-judge_making.was) in
    rw left (record { made = refl; demand1 = demand1_making _ _ _ _ _ _; demand2 = making _ _ _ _ _ _ })

pub shape_of-out : goal.shape_of-out
shape_of-out c =
    let end = length c.args.message.now + 9 in
    same_len_mid end (c.field_size-size.result - end) _ c.spell.new.out c.spell.auto.out ∙ kept (goal.at.shape_of-out c).After-seal

pub returns : goal.returns
returns c =
    let a = c.args in
    let left = make_passed (checked (goal.at.returns c).After-judge_making) c.in_ok-judge_making.was a.edition c.seal.new.out c.spell.new.out c.frame_ad-ad.result c.field_size-size.result
    (c.frame_ad-ad.ensures ∙ ap (frame_ad a.identifier) c.field_code.ensures) c.field_size-size.ensures c.seal.ensures.sealed c.spell.ensures in
    rw left (record { made = refl; demand1 = demand1_making _ _ _ _ _ _; demand2 = making _ _ _ _ _ _ })
