-- `grainv1::adding::add` meets its contract.
use mathlib.Core.Path.{refl, sym, ap, ◌∙◌}
use native.Mathlib.Nat.{add-sub_cancel_left}
use native.Mathlib.Omega.{arith}
use Prim.Native.Nat.{◌*◌, ◌<◌}
use lib.ListN.{length, length-drop}
use Rattle.std.specs.Iterator.Adapters.{enumerate_source, enumerate_count}
use Rattle.std.specs.Slice.Iter.{chunks_rest}
use Rattle.generators.proofs.Turns.{adds_none, left, eight_off, left_less, adds_turn}
use Rattle.grainv1.specs.Functions.{grainv1}
use Rattle.grainv1.proofs.adding.add.Goals as goal

pub loop-i-init : goal.loop-i-init
loop-i-init c =
    rw (c.into_iter-i-iterator.ensures.into_iter_gives, c.enumerate-i-items.ensures.source, c.enumerate-i-items.ensures.count)
    (record { size = c.chunks.ensures.size; rest = c.chunks.ensures.rest; adds = adds_none grainv1 _ _ _ })

pub loop-i-preserved : goal.loop-i-preserved
loop-i-preserved c =
    let inv = c.loop-i.invariant in
    let step = c.in-Some.ensures.steps in
    let s = c.args.s.now in
    let n = enumerate_count c.loop-i.i-iterator in
    let off = eight_off c.in-Some.piece.now (chunks_rest (enumerate_source c.next.new.self)) (left s n) (sym inv.rest ∙ step.0.1.0) (rw (inv.size, inv.rest) at step.0.1.1) in
    let more_left : 8 * n < length s = omega (arith, step.0.1.2, ap length inv.rest, length-drop (8 * n) s) in
    rw (step.1, step.2, add-sub_cancel_left (8 * n) (length c.in-Some.piece.now))
    (record {
      size = step.0.0 ∙ inv.size;
      rest = off.1 ∙ left_less s n;
      adds = adds_turn inv.adds more_left c.word-k.result.outputs c.word-k.ensures.outputs c.word-k.ensures.generator off.0 c.add_places.ensures refl;
    })
