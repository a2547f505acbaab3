-- `strings::add_bytes` meets its contract.
use mathlib.Core.Path.{ap, ◌∙◌}
use native.Mathlib.Omega.{arith}
use lib.ListN.{drop}
use lib.Seq.{take_all}
use Rattle.bits.specs.Bytes.{word}
use Rattle.generators.proofs.Keystream.{more}
use Rattle.machine.proofs.Bitwise.{bits-keystream}
use Rattle.startup.specs.Editions.{bits_in}
use Rattle.strings.proofs.OverBytes.{byte_piece}
use Rattle.strings.proofs.Writing.{adds-pieces, adds_piece, adds_none}
use Rattle.strings.proofs.add_bytes.Goals as goal

pub loop-i-init : goal.loop-i-init
loop-i-init c = adds_none _ _ _ _

pub loop-i-preserved : goal.loop-i-preserved
loop-i-preserved c =
    let k = c.keystream_byte-k in
    let l = c.loop-i in
    let a = c.args in
    let s = a.s.now in
    let i = l.i in
    let byte = ap (word 8) c.wide.ensures ∙ c.ordered_byte-x.ensures ∙ ap (bits_in a.edition) (byte_piece s i c.loop-i-test.true) in
    let piece = adds_piece a.edition s i 1 c.wide.result (omega arith) byte (drop i l.out) k.result.keystream (bits-keystream 8 (omega arith) k.ensures) k.ensures.generator in
    adds-pieces a.edition (more s i 1 (omega arith)) l.invariant piece c.put.ensures

pub returns : goal.returns
returns c =
    let l = c.loop-i in
    rw (take_all l.i c.args.s.now (omega arith)) at l.invariant
