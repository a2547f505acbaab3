-- `signals::decode_bits` meets its contract.
use mathlib.Core.Path.{sym, ◌∙◌, subst}
use mathlib.Core.Bool.{not}
use lib.Dec.{T}
use lib.Ieee.{Float, is_nan}
use Rattle.signals.proofs.Decoding.{NoNan, no_nan}
use Rattle.signals.proofs.decode_bits.Goals as goal

pub float_to_bits-value_bits : goal.float_to_bits-value_bits
float_to_bits-value_bits c =
    let a = c.args in
    subst (λ (x : Float). T (not (is_nan x))) (sym c.carried.ensures)
    (subst NoNan (sym c.decode.ensures ∙ c.in_ok-v.was) (no_nan a.message.now a.start a.width a.signed a.s))
