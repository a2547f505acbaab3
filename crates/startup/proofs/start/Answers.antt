-- `startup::start` meets its contract.
use Rattle.startup.proofs.Initialised.{initialised-words}
use Rattle.startup.proofs.start.Goals as goal

pub returns : goal.returns
returns c =
    initialised-words c.args.edition c.args.key.now c.args.nonce.now c.load-loaded.result c.warm-warmed.result c.fill-first.result c.fill-second.result c.filler.result c.filler-2.result
    c.load-loaded.ensures c.warm-warmed.ensures c.filler.ensures c.filler-2.ensures c.fill-first.ensures c.fill-second.ensures
