-- `authenticator::products::product` meets its contract: after q turns the sum is that over the last 4 q bits of `m`.
use mathlib.Core.Path.{◌≡◌, refl}
use Prim.Native.Nat.{◌*◌, ◌/◌, ◌^◌}
use native.Mathlib.Numerals.{add-one}
use native.Mathlib.Omega.{arith}
use Rattle.bits.specs.Bytes.{word}
use Rattle.authenticator.proofs.Table.{table, joined, onto, moved, taken_none, taken_more}
use Rattle.authenticator.proofs.products.product.Goals as goal

pub loop-q-init : goal.loop-q-init
loop-q-init c = (refl, (taken_none 64 4 c.args.r c.args.m).1)

pub loop-q-preserved : goal.loop-q-preserved
unfolding table joined onto moved word
loop-q-preserved c =
    let a = c.args in
    let l = c.loop-q in
    (refl, rw add-one (taken_more 64 4 a.r a.m l.q (a.m / 2 ^ (4 * l.q)) l.z l.invariant).1)

pub returns : goal.returns
returns c =
    let l = c.loop-q in
    let end : l.q ≡ 8 = omega arith in
    (rw end at l.invariant).1
