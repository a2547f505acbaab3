-- `startup::loading::load` meets its contract.
use mathlib.Core.Path.{◌≡◌}
use native.Mathlib.Omega.{arith}
use borrow.Author.Rules.{rules}
use lib.ListN.{length, take, drop, length-take, length-drop}
use Rattle.key.specs.Sizes.{key_size, nonce_size}
use Rattle.startup.proofs.Loaded.{loaded-words}
use Rattle.startup.proofs.Ordered.{word_eight}
use Rattle.startup.proofs.loading.load.Goals as goal

pub returns : goal.returns
returns c =
    let e = c.args.edition in
    let k = c.args.key.now in
    let n = c.args.nonce.now in
    let key : length k ≡ key_size = search rules in
    let nonce : length n ≡ nonce_size = search rules in
    loaded-words e k n _ key nonce
    record {
      lfsr0 = word_eight e (take 8 n) c.number.result c.ordered.result (omega (arith, length-take 8 n, nonce)) c.number.ensures c.ordered.ensures;
      lfsr1 = c.last_word.ensures;
      nfsr0 = word_eight e (take 8 k) c.number-2.result c.ordered-2.result (omega (arith, length-take 8 k, key)) c.number-2.ensures c.ordered-2.ensures;
      nfsr1 = word_eight e (take 8 (drop 8 k)) c.number-3.result c.ordered-3.result (omega (arith, length-take 8 (drop 8 k), length-drop 8 k, key)) c.number-3.ensures c.ordered-3.ensures;
    }
