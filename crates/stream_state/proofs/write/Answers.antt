-- `stream_state::write` meets its contract.
use mathlib.Core.Path.{◌∙◌}
use borrow.Author.Tests.{eq-eqb}
use lib.ListN.{length}
use Rattle.stream_checks.specs.Rows.{state_size}
use Rattle.stream_state.proofs.Spelled.{stream_words}
use Rattle.stream_state.proofs.write.Goals as goal

pub returns-in-Some : goal.returns-in-Some
returns-in-Some c =
    let a = c.args in
    rw (eq-eqb (length a.state.now) state_size c.in-Some.ensures.cases.long)
    (c.store.ensures ∙ stream_words a.x c.counts_word.result c.edition_word.result c.counts_word.ensures c.edition_word.ensures)
