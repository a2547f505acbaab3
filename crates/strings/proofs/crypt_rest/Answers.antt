-- `strings::crypt_rest` meets its contract.
use mathlib.Core.Path.{◌≡◌, ap, ◌∙◌}
use Prim.Native.Nat.{◌+◌}
use native.Mathlib.Omega.{arith}
use borrow.Author.Rules.{part_to_end}
use lib.ListN.{take, drop, length-drop}
use lib.Seq.{drop-drop}
use Rattle.generators.proofs.Keystream.{more}
use Rattle.startup.specs.Editions.{bits_in}
use Rattle.strings.proofs.OverBytes.{byte_piece}
use Rattle.strings.proofs.Writing.{crypts_piece, crypts-pieces}
use Rattle.strings.proofs.crypt_rest.Goals as goal

pub loop-i-preserved : goal.loop-i-preserved
loop-i-preserved c =
    let l = c.loop-i in
    let a = c.args in
    let s = a.s.now in
    let i = a.from + l.i in
    let its = byte_piece (drop a.from s) l.i (omega (arith, length-drop a.from s, c.loop-i-test.true)) ∙ ap (take 1) (drop-drop l.i a.from s) in
    let byte = rw (part_to_end s _) at c.ordered_byte.ensures ∙ ap (bits_in a.e.edition) its in
    let piece = crypts_piece a.e.edition s i 1 c.ordered_byte.result (omega arith) byte (drop i l.out) c.crypt_byte-c.ensures in
    let next : a.from + (l.i + 1) ≡ i + 1 = omega arith in
    λ st lent h. rw next (crypts-pieces a.e.edition (more s i 1 (omega arith)) (l.invariant st lent h) piece (rw c.wide.ensures at c.put.ensures))
