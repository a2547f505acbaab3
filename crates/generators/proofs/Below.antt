-- Contents of places that agree below a place.
-- Assumes nothing.
use mathlib.Core.Path.{◌≡◌, refl, sym, ap, ap₂, ◌∙◌, fun_ext}
use mathlib.Core.Bool.{Bool}
use Prim.Native.Nat.{ℕ, ◌<◌}
use native.Mathlib.Decide.{dec_lt}
use native.Mathlib.Omega.{arith}
use borrow.Author.Tests.{lt-ltb, le-ltb}
use Rattle.generators.specs.Algebra.{single}
use Rattle.generators.specs.Functions.{Functions, below, Taps}

-- The places of s and t below the n-th are the same.
abbrev pub Agree : (n : ℕ) → (s t : ℕ → Bool) → Type 0
Agree n s t = (k : ℕ) → k < n → s k ≡ t k

below_agrees : {n : ℕ} {s t : ℕ → Bool} → Agree n s t → below n s ≡ below n t
below_agrees {n} {s} {t} e = fun_ext (λ k. elim (dec_lt k n) [ yes h ↦ simp (lt-ltb k n h) (e k h) | no h ↦ simp (le-ltb k n (omega arith)) refl ])

-- The functions see no more than that.
module _ {by : Functions single} {n : ℕ} (taps : Taps n by) where
  pub linear_agrees : {s t : ℕ → Bool} → Agree n s t → by.linear s ≡ by.linear t
  linear_agrees {s} {t} e = sym (taps.linear s) ∙ ap by.linear (below_agrees e) ∙ taps.linear t

  pub nonlinear_agrees : {s t : ℕ → Bool} → Agree n s t → by.nonlinear s ≡ by.nonlinear t
  nonlinear_agrees {s} {t} e = sym (taps.nonlinear s) ∙ ap by.nonlinear (below_agrees e) ∙ taps.nonlinear t

  pub output_agrees : {s t a b : ℕ → Bool} → Agree n s t → Agree n a b → by.output s a ≡ by.output t b
  output_agrees {s} {t} {a} {b} e f = sym (taps.output s a) ∙ ap₂ by.output (below_agrees e) (below_agrees f) ∙ taps.output t b
