-- `strokes::streams::keystream_word` meets its contract.
use native.Mathlib.Omega.{arith}
use Rattle.preoutput.specs.Words.{generator_of}
use Rattle.strokes.proofs.PlainStreams.{streams}
use Rattle.strokes.proofs.streams.keystream_word.Goals as goal

pub returns-in-EverySecond : goal.returns-in-EverySecond
returns-in-EverySecond c =
    rw (c.in-EverySecond.is, c.into.ensures)
    (streams 32 (generator_of c.args.g) c.two_strokes.result c.parted.result (omega arith) c.two_strokes.ensures c.parted.ensures).keystreams
