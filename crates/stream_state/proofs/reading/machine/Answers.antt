-- `stream_state::reading::machine` meets its contract.
use mathlib.Core.Path.{◌≡◌}
use Prim.Native.Nat.{ℕ, ◌+◌, ◌%◌, ◌^◌, ◌≤◌}
use native.Mathlib.Omega.{arith}
use lib.ListN.{take, drop, length-take, length-drop}
use Rattle.bits.specs.Bytes.{word, value, bits}
use Rattle.bits.proofs.Spelling.{spelled_eight}
use Rattle.stream_state.proofs.Places.{machine-words}
use Rattle.stream_state.proofs.reading.machine.Goals as goal

pub returns : goal.returns
returns c =
    let s = c.args.state.now in
    let read : (k n : ℕ) → k + 8 ≤ 64 → n ≡ value (bits (take 8 (drop k s))) % 2 ^ 64 → word 64 n ≡ bits (take 8 (drop k s)) =
    λ k n inside e. spelled_eight (take 8 (drop k s)) n (omega (arith, inside, length-take 8 (drop k s), length-drop k s)) e in
    machine-words c.args.edition s c.number.result c.number-2.result c.number-3.result c.number-4.result c.number-5.result c.number-6.result
    (read 0 c.number.result (omega arith) c.number.ensures) (read 8 c.number-2.result (omega arith) c.number-2.ensures) (read 16 c.number-3.result (omega arith) c.number-3.ensures)
    (read 24 c.number-4.result (omega arith) c.number-4.ensures) (read 32 c.number-5.result (omega arith) c.number-5.ensures) (read 40 c.number-6.result (omega arith) c.number-6.ensures)
