-- `stream_state::writing::store` meets its contract.
use mathlib.Core.Path.{refl}
use Prim.Native.Nat.{◌*◌}
use native.Mathlib.Omega.{arith}
use Rattle.bits.proofs.Written.{word-written}
use Rattle.stream_state.specs.Words.{spelled_words}
use Rattle.stream_state.proofs.Spelled.{stored_turn, stored_all}
use Rattle.stream_state.proofs.writing.store.Goals as goal

pub loop-i-init : goal.loop-i-init
unfolding spelled_words
loop-i-init c = refl

pub loop-i-preserved : goal.loop-i-preserved
loop-i-preserved c =
    let l = c.loop-i in
    let a = c.args in
    stored_turn a.words.now a.state.now l.i (omega arith) l.invariant (word-written l.state (l.i * 8) 8 _ (omega arith) c.spell.ensures)

pub returns : goal.returns
returns c =
    let l = c.loop-i in
    stored_all c.args.words.now c.args.state.now l.i (omega arith) (omega arith) l.invariant
