-- `authenticator::absorb` meets its contract.
use mathlib.Core.Path.{refl}
use mathlib.Core.Bool.{true, false}
use Rattle.bits.proofs.Lowest.{lowest_one, lowest_other, word-xor}
use Rattle.authenticator.proofs.Words.{absorb-words}
use Rattle.authenticator.proofs.absorb.Goals as goal

pub returns-then-m-eq1 : goal.returns-then-m-eq1
returns-then-m-eq1 c =
    let a = c.args in
    absorb-words a.t a.m a.new _ _ true (lowest_one a.m c.if-m-eq1.true) (word-xor 64 a.t.accumulator a.t.register) c.shift_in-register.ensures

pub returns-else-m-eq1 : goal.returns-else-m-eq1
returns-else-m-eq1 c =
    let a = c.args in
    absorb-words a.t a.m a.new _ _ false (lowest_other a.m c.if-m-eq1.false) refl c.shift_in-register.ensures
