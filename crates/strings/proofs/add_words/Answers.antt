-- `strings::add_words` meets its contract.
use mathlib.Core.Path.{refl}
use Prim.Native.Nat.{◌*◌}
use native.Mathlib.Omega.{arith}
use lib.ListN.{drop}
use Rattle.std.specs.Iterator.Adapters.{enumerate_count}
use Rattle.machine.proofs.Bitwise.{bits-keystream}
use Rattle.strings.proofs.OverBytes.{more_word}
use Rattle.strings.proofs.Words.{fours_begun, fours_over, four_off, fours_on, four_spelled}
use Rattle.strings.proofs.Writing.{adds-pieces, adds_piece, adds_none}
use Rattle.strings.proofs.add_words.Goals as goal

pub loop-i-init : goal.loop-i-init
loop-i-init c =
    rw (c.into_iter-i-iterator.ensures.into_iter_gives, c.enumerate-i-items.ensures.source, c.enumerate-i-items.ensures.count)
    (record {
      left = fours_begun _ _ c.chunks_exact.ensures.size c.chunks_exact.ensures.rest refl;
      adds = adds_none _ _ _ _;
    })

pub loop-i-preserved : goal.loop-i-preserved
loop-i-preserved c =
    let k = c.keystream_word-k in
    let l = c.loop-i in
    let step = c.in-Some.ensures.steps in
    let e = c.args.edition in
    let s = c.args.s.now in
    let n = enumerate_count l.i-iterator in
    let four = four_off l.invariant.left c.next.new.self c.in-Some.four.now step.0.1.0 step.0.1.1 in
    let w = c.ordered-x.result in
    let word = four_spelled e c.number.result w four c.number.ensures c.ordered-x.ensures in
    let piece = adds_piece e s (n * 4) 4 w four.inside word (drop (n * 4) l.out) k.result.keystream (bits-keystream 32 (omega arith) k.ensures) k.ensures.generator in
    record {
      left = fours_on l.invariant.left c.next.new.self c.in-Some.four.now step.0.1.0 step.0.1.1 step.0.0 step.2;
      adds = rw step.2 (adds-pieces e (more_word s n l.invariant.left.inside) l.invariant.adds piece (rw step.1 at c.put.ensures));
    }

pub returns : goal.returns
returns c =
    let inv = c.loop-i.invariant in
    rw (fours_over inv.left c.in-None.ensures.steps.0.1.0) at inv.adds
