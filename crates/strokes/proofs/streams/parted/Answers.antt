-- `strokes::streams::parted` meets its contract.
use mathlib.Core.Path.{refl}
use native.Mathlib.Omega.{arith}
use Rattle.strokes.proofs.PlainStreams.{halves}
use Rattle.strokes.proofs.streams.parted.Goals as goal

pub returns : goal.returns
returns c =
    let both = halves c.args.r c.part-both.result (omega (arith, c.part-both.type_inv)) c.part-both.ensures in
    record { registers = refl; keystream = both.0; authentication = both.1 }
