-- `frames::make` meets its contract: it is making in the first edition.
use Rattle.frames.proofs.make.Goals as goal

pub returns : goal.returns
returns c = c.make.ensures
