-- `strokes::streams::keystream_byte` meets its contract.
use native.Mathlib.Omega.{arith}
use Rattle.strokes.proofs.PlainStreams.{one_stroke}
use Rattle.strokes.proofs.streams.keystream_byte.Goals as goal

pub returns-in-Every : goal.returns-in-Every
returns-in-Every c =
    rw c.in-Every.is (one_stroke 8 c.args.g c.outputs.result (omega arith) c.stroke.ensures c.outputs.ensures c.slide.ensures)

pub returns-in-EverySecond : goal.returns-in-EverySecond
returns-in-EverySecond c =
    rw (c.in-EverySecond.is, c.into.ensures) c.stream_byte.ensures.keystreams
