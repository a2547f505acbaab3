-- `authenticator::absorb_byte` meets its contract: what the bits that are left do comes to what all eight do.
use native.Mathlib.Omega.{arith}
use Rattle.authenticator.specs.Words.{authenticator_of}
use Rattle.authenticator.proofs.Words.{absorb_less, absorb-none}
use Rattle.authenticator.proofs.absorb_byte.Goals as goal

pub loop-left-preserved : goal.loop-left-preserved
loop-left-preserved c =
    let a = c.args in
    let l = c.loop-left in
    absorb_less a.m a.new (authenticator_of l.now) l.left c.loop-left-test.true c.absorb-now.ensures l.invariant

pub returns : goal.returns
returns c =
    let l = c.loop-left in
    absorb-none c.args.m c.args.new (authenticator_of l.now) l.left (omega arith) l.invariant
