-- `captures::reader::step` meets its contract.
use Rattle.std.proofs.Common.{refl, ◌∙◌}
use Rattle.captures.proofs.Within.{following_fits}
use Rattle.captures.proofs.reader.step.Goals as goal

pub returns : goal.returns
returns c =
    let r = c.args.r.now in
    (c.find-found.ensures, c.found_body-body.ensures, refl, c.following-r.ensures ∙ following_fits r.capture.now r.next.0 _ c.find-found.ensures)
