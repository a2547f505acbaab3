-- `captures::frames` meets its contract.
use Rattle.std.proofs.Common.{◌≡◌, rules, ap, ◌∙◌}
use Rattle.captures.specs.Walk.{walk_capture}
use Rattle.captures.proofs.Seeking.{frames_told, counts}
use Rattle.captures.proofs.frames.Goals as goal

pub returns : goal.returns
returns c =
    let told : c.map.result ≡ frames_told c.capture.result = search rules in
    told ∙ ap frames_told c.capture.ensures ∙ counts 0 (walk_capture c.args.capture.now)
