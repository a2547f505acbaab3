-- `mode_checks::judge_authenticated` meets its contract.
use mathlib.Core.Path.{◌≡◌, sym, ◌∙◌}
use mathlib.Core.Bool.{false}
use mathlib.Core.List.{[], ◌∷◌}
use borrow.Author.Rules.{rules}
use Rattle.refusals.specs.declared.Refusal.TheVariants.{TagLength, MessageTooLong, SealedTooShort, OutputTooShort}
use Rattle.refusals.specs.Refusals.{among, check}
use Rattle.refusals.proofs.Rows.{failed_front}
use Rattle.mode_checks.specs.Modes.{is_tag_length}
use Rattle.mode_checks.specs.Order.{common, before_tag}
use Rattle.mode_checks.specs.Rows.{common_rows, authenticated_rows}
use Rattle.mode_checks.proofs.judge_authenticated.Goals as goal

pub returns-in_err-judge_common : goal.returns-in_err-judge_common
unfolding before_tag common authenticated_rows common_rows among check
returns-in_err-judge_common c =
    let a = c.args in
    let rows = authenticated_rows a.key.now a.nonce.now a.tag_bits a.too_long a.too_short a.no_room false in
    let later = TagLength ∷ MessageTooLong ∷ SealedTooShort ∷ OutputTooShort ∷ [] in
    rw (failed_front (among rows) later common (sym c.judge_common.ensures ∙ c.in_err-judge_common.was)) (search rules)

pub returns : goal.returns
unfolding before_tag common authenticated_rows common_rows among check
returns c =
    let legal : c.contains.result ≡ is_tag_length c.args.tag_bits = search rules in
    search (rules, legal)
