-- `length_codes::calls::length_code` meets its contract.
use borrow.Author.Tests.{lt-ltb, le-ltb}
use Rattle.length_codes.proofs.calls.length_code.Goals as goal

pub returns-then-length-gt64 : goal.returns-then-length-gt64
returns-then-length-gt64 c = simp (lt-ltb 64 c.args.length c.if-length-gt64.true)

pub returns : goal.returns
returns c = rw c.length_code-code.ensures (simp (le-ltb 64 c.args.length c.if-length-gt64.false))
