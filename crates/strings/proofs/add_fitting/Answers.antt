-- `strings::add_fitting` meets its contract.
use Prim.Native.Nat.{◌*◌, ◌/◌}
use borrow.Author.Rules.{part_to_end}
use lib.ListN.{length}
use Rattle.bits.proofs.Written.{rest-written}
use Rattle.strings.proofs.OverBytes.{words-and-bytes}
use Rattle.strings.proofs.Writing.{adds-pieces}
use Rattle.strings.proofs.add_fitting.Goals as goal

pub returns : goal.returns
returns c =
    let s = c.args.s.now in
    let mid = c.add_words-words.new.out in
    (adds-pieces c.args.edition (words-and-bytes s) c.add_words-words.ensures (rw (part_to_end s _, part_to_end mid _) at c.add_bytes.ensures) (rest-written mid (length s / 4 * 4) _)).written
