-- `stream_state::writing::counts_word` meets its contract.
use native.Mathlib.Omega.{arith}
use borrow.Author.Rules.{rules}
use Rattle.stream_state.proofs.Spelled.{counts-bytes}
use Rattle.stream_state.proofs.writing.counts_word.Goals as goal

pub returns : goal.returns
returns c =
    let w = rw (c.to_be_bytes.ensures, c.to_be_bytes-2.ensures, c.to_be_bytes-3.ensures) at c.from_be_bytes.ensures in
    counts-bytes _ _ _ _ _ _ (search rules) (search rules) (search rules) (search rules) (search rules) (omega (arith, w))
