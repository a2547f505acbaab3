-- `captures::find` meets its contract.
use Rattle.std.proofs.Common.{sym, ap, ◌∙◌}
use Rattle.captures.specs.Walk.{walk_capture}
use Rattle.captures.proofs.Seeking.{frame_told, finds}
use Rattle.captures.proofs.find.Goals as goal

pub returns : goal.returns
returns c =
    let a = c.args in
    c.ok_or.ensures.value ∙ ap frame_told (sym c.in_ok-t.was ∙ c.capture.ensures) ∙ finds a.number.0 (walk_capture a.capture.now)
