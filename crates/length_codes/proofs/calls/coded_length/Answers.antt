-- `length_codes::calls::coded_length` meets its contract.
use borrow.Author.Tests.{lt-ltb, le-ltb}
use Rattle.length_codes.proofs.calls.coded_length.Goals as goal

pub returns-then-code-gt15 : goal.returns-then-code-gt15
returns-then-code-gt15 c = simp (lt-ltb 15 c.args.code c.if-code-gt15.true)

pub returns : goal.returns
returns c = rw c.coded_length.ensures (simp (le-ltb 15 c.args.code c.if-code-gt15.false))
