-- `mode_checks::judge_unauthenticated` meets its contract.
use mathlib.Core.Path.{sym, ◌∙◌}
use mathlib.Core.List.{[], ◌∷◌}
use borrow.Author.Rules.{rules}
use Rattle.refusals.specs.declared.Refusal.TheVariants.{MessageTooLong, OutputTooShort}
use Rattle.refusals.specs.Refusals.{among, check}
use Rattle.refusals.proofs.Rows.{failed_front}
use Rattle.mode_checks.specs.Order.{common, unauthenticated}
use Rattle.mode_checks.specs.Rows.{common_rows, unauthenticated_rows}
use Rattle.mode_checks.proofs.judge_unauthenticated.Goals as goal

pub returns-in_err-judge_common : goal.returns-in_err-judge_common
unfolding unauthenticated common unauthenticated_rows common_rows among check
returns-in_err-judge_common c =
    let a = c.args in
    let rows = unauthenticated_rows a.key.now a.nonce.now a.too_long a.no_room in
    rw (failed_front (among rows) (MessageTooLong ∷ OutputTooShort ∷ []) common (sym c.judge_common.ensures ∙ c.in_err-judge_common.was)) (search rules)
