-- `grain128aead::seal` meets its contract: it is sealing in the first edition.
use Rattle.grain128aead.proofs.seal.Goals as goal

pub returns : goal.returns
returns c = c.seal.ensures
