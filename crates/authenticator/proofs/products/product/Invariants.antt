-- `authenticator::products::product` meets its contract: after q turns the sum is that over the last 4 q bits of `m`.
use Prim.Native.Nat.{◌*◌, ◌/◌, ◌^◌}
use Rattle.authenticator.proofs.Table.{Taken}
use Rattle.authenticator.proofs.products.product.Given as goal

abbrev pub invariant-loop-q : goal.invariant-loop-q
invariant-loop-q l = Taken 64 4 l.r l.m l.q (l.m / 2 ^ (4 * l.q)) l.z
