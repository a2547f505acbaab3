-- `bits::spell` meets its contract: from place i on, the string has the lowest bytes of the word.
use lib.ListN.{length}
use Rattle.bits.proofs.Spelling.{spelling_none, spelling_turn}
use Rattle.bits.proofs.spell.Goals as goal

pub loop-i-init : goal.loop-i-init
loop-i-init c = spelling_none c.args.w c.args.out.now

pub loop-i-preserved : goal.loop-i-preserved
loop-i-preserved c =
    let l = c.loop-i in
    let a = c.args in
    spelling_turn a.w (length a.out.now) l.out l.rest l.i l.auto.out l.auto.i c.loop-i-test.true l.invariant
