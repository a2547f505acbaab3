-- `bits::slide` meets its contract.
use Prim.Native.Nat.{◌%◌}
use native.Mathlib.Nat.{mod-lt}
use borrow.Author.Rules.{rules}
use lib.Bits.{and_mask}
use lib.Pow.{pow_pos}
use Rattle.bits.proofs.Slides.{slide_word}
use Rattle.bits.proofs.slide.Goals as goal

pub returns : goal.returns
returns c =
    let a = c.args in
    rw (and_mask a.n 6) (slide_word (a.n % 64) a.word0 a.word1 (mod-lt a.n (pow_pos 6)) (search rules))
