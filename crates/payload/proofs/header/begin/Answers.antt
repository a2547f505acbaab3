-- `payload::header::begin` meets its contract.
use Rattle.payload.proofs.Begun.{begins}
use Rattle.payload.proofs.header.begin.Goals as goal

pub returns : goal.returns
returns c =
    let a = c.args in
    begins a.edition a.key.now a.nonce.now a.ad.now c.start-started.result c.absorb_length.result c.absorb_all.result c.start-started.ensures c.absorb_length.ensures c.absorb_all.ensures
