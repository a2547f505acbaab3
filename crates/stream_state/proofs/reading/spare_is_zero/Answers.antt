-- `stream_state::reading::spare_is_zero` meets its contract.
use native.Mathlib.Omega.{arith}
use lib.ListN.{drop, length-drop}
use lib.Seq.{take_all}
use Rattle.bits.proofs.Packing.{Bytes-drop}
use Rattle.stream_state.proofs.Places.{spare-zero}
use Rattle.stream_state.proofs.reading.spare_is_zero.Goals as goal

pub returns : goal.returns
returns c =
    let state = c.args.state.now in
    spare-zero (drop 57 state) c.number.result (omega (arith, length-drop 57 state)) (Bytes-drop 57 state (λ i. omega arith)) (rw (take_all 7 (drop 57 state) (omega (arith, length-drop 57 state))) at c.number.ensures)
