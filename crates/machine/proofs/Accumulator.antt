-- The accumulator in closed form, and the sum of two accumulators.
-- Assumes nothing.
use mathlib.Core.Path.{◌≡◌, sym, ap, ap₂, ◌∙◌, fun_ext}
use mathlib.Core.Bool.{Bool, false}
use mathlib.Core.List.{List}
use Prim.Native.Nat.{ℕ, ◌<◌}
use native.Mathlib.Nat.{le_of_eq}
use lib.ListN.{length, length-replicate}
use Rattle.bits.specs.Strings.{◌⊞◌, zeros}
use Rattle.bits.proofs.Sum.{sum_both, length-sum}
use Rattle.authenticator.specs.Authenticator.{Authenticator, register_after}
use Rattle.authenticator.specs.ClosedForm.{registers_at}
use Rattle.authenticator.proofs.ClosedForm.{closed_form}
use Rattle.authenticator.proofs.Linear.{registers_at-sum, length-registers_at}
use Rattle.machine.specs.Machine.{State}
use Rattle.machine.specs.Laws.{Sized, register_at, ClosedForm, differing_registers, AccumulatorSum}
use Rattle.machine.proofs.Machine.{register_bits, run-authenticator, run-register, run-sized}

-- The register at position i is what the register becomes in i moves.
register_at-after : (st : State) (i : ℕ) → register_at st i ≡ register_after st.authenticator.register (register_bits st.generator) i
unfolding register_at
register_at-after st i = run-register st (zeros i) ∙ ap (register_after _ _) (length-replicate i false)

pub length-register_at : (w : ℕ) (st : State) → 0 < w → Sized w st → (i : ℕ) → length (register_at st i) ≡ w
unfolding register_at
length-register_at w st pos sized i = (run-sized w st (zeros i) pos sized).authenticator.register

pub machine_closed_form : ClosedForm
machine_closed_form w st s pos sized =
    ap (λ (a : Authenticator). a.accumulator) (run-authenticator st s)
    ∙ closed_form w st.authenticator s (register_bits st.generator) pos sized.authenticator
    ∙ ap (λ (R : ℕ → List Bool). st.authenticator.accumulator ⊞ registers_at w R 0 s) (fun_ext (λ i. sym (register_at-after st i)))

pub accumulator-sum : AccumulatorSum
unfolding differing_registers
accumulator-sum w st s t pos sized =
    ap₂ ◌⊞◌ (machine_closed_form w st s pos sized) (machine_closed_form w st t pos sized)
    ∙ sum_both st.authenticator.accumulator (at s) (at t) (le_of_eq (sized.authenticator.accumulator ∙ sym (length-sum (at s) (at t) (wide s ∙ sym (wide t)) ∙ wide s)))
    ∙ sym (registers_at-sum w (register_at st) (length-register_at w st pos sized) 0 s t)
  where
    at : List Bool → List Bool
    at = registers_at w (register_at st) 0

    wide : (u : List Bool) → length (at u) ≡ w
    wide = length-registers_at w (register_at st) (length-register_at w st pos sized) 0
