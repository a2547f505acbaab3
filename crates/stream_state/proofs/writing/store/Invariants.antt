-- `stream_state::writing::store` meets its contract.
use Rattle.stream_state.proofs.Spelled.{Stored}
use Rattle.stream_state.proofs.writing.store.Given as goal

abbrev pub invariant-loop-i : goal.invariant-loop-i
invariant-loop-i l = Stored l.words l.initial.state l.i l.state
