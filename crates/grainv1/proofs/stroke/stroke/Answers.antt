-- `grainv1::stroke::stroke` meets its contract.
use Rattle.grainv1.proofs.Strokes.{stroke_words}
use Rattle.grainv1.proofs.stroke.stroke.Goals as goal

pub returns : goal.returns
returns c =
    let a = c.args in
    rw (c.nonlinear.ensures, c.linear.ensures, c.of-s.ensures.0, c.of-b.ensures.0) (stroke_words a.g c.of-s.result.1 c.of-b.result.1 c.of-s.ensures.1 c.of-b.ensures.1 a.added)
