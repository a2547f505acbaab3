-- `frames::read` meets its contract: it is reading in the first edition.
use Rattle.frames.proofs.read.Goals as goal

pub returns : goal.returns
returns c = c.read.ensures
