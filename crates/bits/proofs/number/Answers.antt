-- `bits::number` meets its contract: each byte is moved into the word behind those before it.
use native.Mathlib.Omega.{arith}
use Rattle.std.proofs.Common.{rules, tests, ◌∙◌}
use Rattle.std.proofs.lemmas.Iterator.{YieldsList-from_slice}
use Rattle.std.proofs.lemmas.Iterator.Consumers.{fold_from_yields_List}
use Rattle.bits.proofs.Spelling.{moved_in, all_moved_in}
use Rattle.bits.proofs.number.Goals as goal

pub returns : goal.returns
returns c =
    let s = c.args.s.now in
    fold_from_yields_List _ moved_in 0 c.fold.result c.fold.ensures.ran (YieldsList-from_slice s c.iter.ensures.rest) (λ n b m q k. search (rules, tests))
    ∙ all_moved_in s (λ i. omega (arith, c.type_inv.s i))
