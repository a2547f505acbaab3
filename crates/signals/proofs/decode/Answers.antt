-- `signals::decode` meets its contract.
use mathlib.Core.Path.{sym, ap, ◌∙◌, subst}
use lib.Dec.{T}
use lib.IntN.{ℤ}
use lib.ListN.{length}
use lib.Ieee.{Float, binary64, in_float}
use mir.Syntax.{w64}
use mir.ValLaws.{to_z-of_z}
use borrow.Author.Rules.{rules}
use Rattle.std.specs.Prelude.{Ok}
use Rattle.signals.specs.Raw.{misplaced}
use Rattle.signals.specs.Values.{unusable, value_of, verdict}
use Rattle.signals.proofs.Complement.{raw_in_float}
use Rattle.signals.proofs.Decoding.{neither, is_refused, is_value}
use Rattle.signals.proofs.decode.Goals as goal

pub returns-in_err-first : goal.returns-in_err-first
returns-in_err-first c =
    let a = c.args in
    let tried = rw (c.misplaced-misplaced.ensures, c.unusable.ensures) at c.first.ensures in
    rw (is_refused a.message.now a.start a.width a.signed a.s (sym tried ∙ c.in_err-first.was)) (search rules)

pub value-requires : goal.value-requires
value-requires c =
    let a = c.args in
    let tried = rw (c.misplaced-misplaced.ensures, c.unusable.ensures) at c.first.ensures in
    let none = neither (misplaced (length a.message.now) a.start a.width) (unusable a.s) (sym tried ∙ c.in_ok-first.was) in
    subst (λ (n : ℤ). T (in_float binary64 n)) (sym (to_z-of_z w64 c.raw-n.result (record { sfits = c.raw-n.type_inv }) ∙ c.raw-n.ensures))
    (raw_in_float a.message.now a.start a.width none.0 a.signed)

pub returns : goal.returns
returns c =
    let a = c.args in
    let tried = rw (c.misplaced-misplaced.ensures, c.unusable.ensures) at c.first.ensures in
    let none = neither (misplaced (length a.message.now) a.start a.width) (unusable a.s) (sym tried ∙ c.in_ok-first.was) in
    ap Ok (c.verdict.ensures ∙ ap (λ (x : Float). verdict x a.s) c.value.ensures
    ∙ ap (λ (n : ℤ). verdict (value_of n a.s) a.s) (to_z-of_z w64 c.raw-n.result (record { sfits = c.raw-n.type_inv }) ∙ c.raw-n.ensures))
    ∙ sym (is_value a.message.now a.start a.width a.signed a.s none.0 none.1)
