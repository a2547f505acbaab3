-- `key::is_blank` meets its contract: of 16 bytes, these joined are zero exactly when each of them is.
use mathlib.Core.Path.{sym, ◌∙◌}
use native.Mathlib.Omega.{arith}
use borrow.Author.Tests.{ne_eqb}
use lib.Bits.{bit_or}
use Rattle.std.proofs.Common.{rules, tests}
use Rattle.std.proofs.lemmas.Iterator.{YieldsList-from_slice}
use Rattle.std.proofs.lemmas.Iterator.Consumers.{fold_from_yields_List}
use Rattle.key.proofs.BlankKey.{zero_blank, wrong_size}
use Rattle.key.proofs.is_blank.Goals as goal

pub returns-then-key-eq16 : goal.returns-then-key-eq16
returns-then-key-eq16 c =
    let key = c.args.key.now in
    let joined = fold_from_yields_List _ bit_or 0 c.fold.result c.fold.ensures.ran (YieldsList-from_slice key c.iter.ensures.rest) (λ a b n q k. search (rules, tests)) in
    rw joined (zero_blank key (omega arith))

pub returns-else-key-eq16 : goal.returns-else-key-eq16
returns-else-key-eq16 c =
    let key = c.args.key.now in
    ne_eqb _ 16 (λ e. omega arith) ∙ sym (wrong_size key (λ e. omega arith))
