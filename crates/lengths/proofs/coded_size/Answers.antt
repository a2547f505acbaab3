-- `lengths::coded_size` meets its contract.
use mathlib.Core.Path.{refl}
use borrow.Author.Tests.{le-leb, lt-leb}
use Rattle.lengths.specs.CodedLength.{coded_length}
use Rattle.lengths.proofs.coded_size.Goals as goal

pub returns-then-n-le127 : goal.returns-then-n-le127
unfolding coded_length
returns-then-n-le127 c = rw (le-leb _ _ c.if-n-le127.true) refl

pub returns-then-n-le255 : goal.returns-then-n-le255
unfolding coded_length
returns-then-n-le255 c = rw (lt-leb _ _ c.if-n-le127.false, le-leb _ _ c.if-n-le255.true) refl

pub returns : goal.returns
unfolding coded_length
returns c = rw (lt-leb _ _ c.if-n-le127.false, lt-leb _ _ c.if-n-le255.false) refl
