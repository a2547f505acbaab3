-- `strokes::streams::preoutput_word` meets its contract.
use native.Mathlib.Omega.{arith}
use Rattle.strokes.proofs.PlainStreams.{one_stroke}
use Rattle.strokes.proofs.streams.preoutput_word.Goals as goal

pub returns : goal.returns
returns c =
    one_stroke 32 c.args.g c.outputs-y.result (omega arith) c.plain_stroke-registers.ensures c.outputs-y.ensures c.slide.ensures
