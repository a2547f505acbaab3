-- `grain128a::tag::finish` meets its contract.
use native.Mathlib.Omega.{arith}
use lib.Pow.{pow_pos}
use Rattle.bits.proofs.Word.{one_up}
use Rattle.grain128a.proofs.TagNumber.{tag-number}
use Rattle.grain128a.proofs.tag.finish.Goals as goal

pub nonzero_rem-result : goal.nonzero_rem-result
nonzero_rem-result c = rw (one_up c.args.tag_bits (omega (arith, c.requires))) (pow_pos c.args.tag_bits)

pub returns : goal.returns
returns c =
    tag-number c.args.tag_bits c.finish.result c.requires _ c.size.result c.finish.ensures c.size.ensures
