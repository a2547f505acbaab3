-- `payload::header::absorb_length` meets its contract.
use mathlib.Core.Path.{ap, ◌∙◌}
use Prim.Native.Nat.{◌/◌, ◌%◌}
use native.Mathlib.Omega.{arith}
use Rattle.machine.specs.Machine.{run}
use Rattle.machine.specs.Engine.{state_of}
use Rattle.startup.proofs.Ordered.{bits_in-lowest}
use Rattle.payload.proofs.Begun.{absorbs_two, absorbs_three}
use Rattle.lengths.proofs.CodedLength.{coded-short, coded_one, coded_two}
use Rattle.payload.proofs.header.absorb_length.Goals as goal

pub returns-then-n-le127 : goal.returns-then-n-le127
returns-then-n-le127 c =
    let a = c.args in
    rw (coded-short a.n (omega (arith, c.if-n-le127.true))) c.absorb_byte.ensures

pub returns-then-n-le255 : goal.returns-then-n-le255
returns-then-n-le255 c =
    let a = c.args in
    rw (coded_one a.n (omega (arith, c.if-n-le127.false)) (omega (arith, c.if-n-le255.true)))
    (absorbs_two a.e c.absorb_byte-then-n-le255.result c.absorb_byte-then-n-le255-2.result 0x81 a.n c.absorb_byte-then-n-le255.ensures c.absorb_byte-then-n-le255-2.ensures)

pub returns : goal.returns
returns c =
    let m = c.absorb_byte-marked in
    let h = c.absorb_byte-high in
    let a = c.args in
    rw (coded_two a.n (omega (arith, c.if-n-le255.false)))
    (absorbs_three a.e m.result h.result 0x82 (a.n / 256) m.ensures (h.ensures ∙ ap (run (state_of m.result)) (bits_in-lowest m.result.edition (a.n / 256))) c.absorb_byte-2.result (a.n % 256) c.absorb_byte-2.ensures)
