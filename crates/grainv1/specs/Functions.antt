-- The functions of Grain v1, of the eSTREAM specification. s gives the content of each place of the LFSR, b that of the NFSR.
use Rattle.std.specs.Prelude.{ℕ}
use Rattle.generators.specs.Algebra.{Algebra, single}
use Rattle.generators.specs.Functions.{Functions}

module _ {A : Type 0} (over : Algebra A) where
  open over use {sum as ◌⊻◌, product as ◌·◌}

  infixl 60 ◌⊻◌
  infixl 70 ◌·◌
  abbrev pub L : (ℕ → A) → A
  L s = s 62 ⊻ s 51 ⊻ s 38 ⊻ s 23 ⊻ s 13 ⊻ s 0

  abbrev pub F : (ℕ → A) → A
  F b =
      b 62 ⊻ b 60 ⊻ b 52 ⊻ b 45 ⊻ b 37 ⊻ b 33 ⊻ b 28 ⊻ b 21 ⊻ b 14 ⊻ b 9 ⊻ b 0
      ⊻ b 63 · b 60 ⊻ b 37 · b 33 ⊻ b 15 · b 9
      ⊻ b 60 · b 52 · b 45 ⊻ b 33 · b 28 · b 21
      ⊻ b 63 · b 45 · b 28 · b 9 ⊻ b 60 · b 52 · b 37 · b 33 ⊻ b 63 · b 60 · b 21 · b 15
      ⊻ b 63 · b 60 · b 52 · b 45 · b 37 ⊻ b 33 · b 28 · b 21 · b 15 · b 9
      ⊻ b 52 · b 45 · b 37 · b 33 · b 28 · b 21

  abbrev pub h : (x₀ x₁ x₂ x₃ x₄ : A) → A
  h x₀ x₁ x₂ x₃ x₄ = x₁ ⊻ x₄ ⊻ x₀ · x₃ ⊻ x₂ · x₃ ⊻ x₃ · x₄ ⊻ x₀ · x₁ · x₂ ⊻ x₀ · x₂ · x₃ ⊻ x₀ · x₂ · x₄ ⊻ x₁ · x₂ · x₄ ⊻ x₂ · x₃ · x₄

  abbrev pub z : (s b : ℕ → A) → A
  z s b = h (s 3) (s 25) (s 46) (s 64) (b 63) ⊻ b 1 ⊻ b 2 ⊻ b 4 ⊻ b 10 ⊻ b 31 ⊻ b 43 ⊻ b 56

abbrev pub functions : {A : Type 0} (over : Algebra A) → Functions over
functions over = record { linear = L over; nonlinear = F over; output = z over }

-- On single bits.
abbrev pub grainv1 : Functions single
grainv1 = functions single
