-- `strokes::at_once` meets its contract.
use mathlib.Core.Path.{◌≡◌}
use Prim.Native.Nat.{◌%◌}
use native.Mathlib.Nat.{mod-eq_of_lt}
use native.Mathlib.Omega.{arith}
use Rattle.strokes.proofs.StrokeWords.{at-once-words}
use Rattle.strokes.proofs.at_once.Goals as goal

pub returns : goal.returns
returns c =
    let within : c.args.n % 64 ≡ c.args.n = mod-eq_of_lt (omega (arith, c.requires)) in
    at-once-words c.args.r c.args.a c.args.n c.outputs-y.result c.fed-fed.result _ c.requires c.outputs-y.ensures c.fed-fed.ensures c.stroke.ensures (rw within at c.slide.ensures)
