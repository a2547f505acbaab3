-- `signals::judging::value` meets its contract.
use mathlib.Core.Path.{ap}
use lib.IntN.{ℤ}
use lib.Ieee.{binary64, of_int, mul, add}
use mir.Syntax.{w64}
use mir.ValLaws.{to_z-of_z}
use borrow.Author.Rules.{rules}
use Rattle.signals.specs.Values.{value_of}
use Rattle.signals.proofs.judging.value.Goals as goal

pub returns : goal.returns
unfolding value_of
returns c =
    let a = c.args in
    ap (λ (n : ℤ). add binary64 (mul binary64 (of_int binary64 n) a.s.scale) a.s.offset) (to_z-of_z w64 a.raw (search rules))
