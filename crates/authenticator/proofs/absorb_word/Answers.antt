-- `authenticator::absorb_word` meets its contract.
use native.Mathlib.Omega.{arith}
use Rattle.authenticator.proofs.AtOnce.{absorb-at-once}
use Rattle.authenticator.proofs.absorb_word.Goals as goal

pub returns : goal.returns
returns c =
    let a = c.args in
    let p = c.product in
    let q = c.product-2 in
    absorb-at-once a.t a.m a.new p.result q.result p.ensures q.ensures (omega arith)
