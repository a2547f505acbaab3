-- `startup::loading::last_word` meets its contract.
use native.Mathlib.Omega.{arith}
use lib.Dec.{lit<}
use lib.ListN.{take, drop, length-take, length-drop}
use Rattle.bits.specs.Bytes.{word}
use Rattle.startup.proofs.Ordered.{word_four}
use Rattle.startup.proofs.loading.last_word.Goals as goal

pub returns : goal.returns
unfolding word
returns c =
    let a = c.args in
    let n = a.nonce.now in
    word_four a.edition (take 4 (drop 8 n)) c.number.result c.ordered.result 0xffff_fffe
    (omega (arith, length-take 4 (drop 8 n), length-drop 8 n)) (lit< tt) c.number.ensures c.ordered.ensures
