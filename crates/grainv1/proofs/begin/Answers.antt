-- `grainv1::begin` meets its contract.
use mathlib.Core.Path.{◌≡◌}
use Prim.Native.Nat.{◌-◌}
use borrow.Author.Rules.{rules, part_to_end}
use borrow.Rule.Slice.PartMut.{mid_of}
use lib.ListN.{length, drop}
use Rattle.grainv1.proofs.StartUp.{initialised-words}
use Rattle.grainv1.proofs.begin.Goals as goal

pub returns : goal.returns
returns c =
    let key = c.args.key.now in
    let ten : length key ≡ 10 = search rules in
    let eight : length c.args.nonce.now ≡ 8 = search rules in
    let to_end : mid_of 8 (length key - 8) key ≡ drop 8 key = part_to_end key 8 in
    let last : mid_of 8 2 key ≡ drop 8 key = rw ten at to_end in
    initialised-words key c.args.nonce.now c.number.result c.number-2.result c.number-3.result ten eight
    c.number.ensures (rw last at c.number-2.ensures) c.number-3.ensures c.start.ensures
