-- `signals::raw::raw` meets its contract.
use mathlib.Core.Path.{◌≡◌, sym, ap, ◌∙◌}
use mathlib.Core.Bool.{Bool, false}
use Prim.Native.Nat.{ℕ, ◌<◌}
use native.Mathlib.Nat.{lt_of_lt_of_le}
use native.Mathlib.Omega.{arith}
use lib.Dec.{lit≤}
use lib.IntN.{pos}
use lib.ListN.{length}
use mir.Syntax.{w64}
use mir.ValLaws.{to_z_pos, to_z-of_z}
use Rattle.bits.specs.Bytes.{word}
use Rattle.signals.specs.Raw.{field, twos_complement, number}
use Rattle.signals.proofs.Placed.{placed, length-field}
use Rattle.signals.proofs.Complement.{word_number, field_bound, field-small}
use Rattle.signals.proofs.raw.raw.Goals as goal

-- a bound on a number holds of what is equal to it
below : {n m k : ℕ} → n ≡ m → m < k → n < k
below e h = omega arith

pub twos_complement-requires : goal.twos_complement-requires
twos_complement-requires c =
    let a = c.args in
    let at = placed (length a.message.now) a.start a.width c.requires in
    (at.least, at.most, below c.unsigned-n.ensures (field_bound a.message.now a.start a.width c.requires))

pub returns-then-signed : goal.returns-then-signed
returns-then-signed c =
    let a = c.args in
    let f = field a.message.now a.start a.width in
    let long : length f ≡ a.width = length-field a.message.now a.start a.width (placed (length a.message.now) a.start a.width c.requires).inside in
    to_z-of_z w64 c.twos_complement.result (record { sfits = c.twos_complement.type_inv }) ∙ c.twos_complement.ensures
    ∙ ap (λ (n : ℕ). twos_complement (word a.width n)) c.unsigned-n.ensures ∙ ap twos_complement (word_number a.width false f long)
    ∙ sym (ap (λ (signed : Bool). number signed f) c.if-signed.true)

pub overflow_cast-result : goal.overflow_cast-result
overflow_cast-result c =
    let a = c.args in
    record { sfits = below c.unsigned-n.ensures (lt_of_lt_of_le (field-small a.message.now a.start a.width c.requires) (lit≤ tt)) }

pub returns : goal.returns
returns c =
    let a = c.args in
    to_z_pos w64 c.unsigned-n.result (below c.unsigned-n.ensures (lt_of_lt_of_le (field-small a.message.now a.start a.width c.requires) (lit≤ tt)))
    ∙ ap pos c.unsigned-n.ensures ∙ sym (ap (λ (signed : Bool). number signed (field a.message.now a.start a.width)) c.if-signed.false)
