-- `preoutput::plain::preoutput` meets its contract.
use mathlib.Core.Path.{sym}
use Rattle.preoutput.proofs.Words.{preoutput-words}
use Rattle.preoutput.proofs.plain.preoutput.Goals as goal

pub returns : goal.returns
returns c = rw c.output.ensures (sym (preoutput-words c.args.g))
