-- `strokes::streams::stream_byte` meets its contract.
use native.Mathlib.Omega.{arith}
use Rattle.preoutput.specs.Words.{generator_of}
use Rattle.strokes.proofs.PlainStreams.{streams, one_stroke}
use Rattle.strokes.proofs.streams.stream_byte.Goals as goal

pub returns : goal.returns
returns c =
    let g = c.args.g in
    streams 8 (generator_of g) _ c.parted.result (omega arith) (one_stroke 16 g c.outputs.result (omega arith) c.stroke.ensures c.outputs.ensures c.slide.ensures) c.parted.ensures
