-- Section 2.1 of source document 000 as it is printed there: two feedback polynomials, h of nine variables, and the set A. The
-- functions that document 01 writes out are these.
use Rattle.std.specs.Prelude.{◌≡◌, ℕ}
use mathlib.Core.List.{List, [], ◌∷◌, map, foldl}
use Rattle.generators.specs.Algebra.{Algebra}
use Rattle.generators.specs.Polynomial.{feedback}
use Rattle.preoutput.specs.Functions.{h, functions}

-- The highest power first.
abbrev pub f : List (List ℕ)
f = (128 ∷ []) ∷ (121 ∷ []) ∷ (90 ∷ []) ∷ (58 ∷ []) ∷ (47 ∷ []) ∷ (32 ∷ []) ∷ []

abbrev pub g : List (List ℕ)
g =
    (128 ∷ []) ∷ (102 ∷ []) ∷ (72 ∷ []) ∷ (37 ∷ []) ∷ (32 ∷ [])
    ∷ (125 ∷ 61 ∷ []) ∷ (117 ∷ 115 ∷ []) ∷ (111 ∷ 110 ∷ []) ∷ (101 ∷ 69 ∷ []) ∷ (88 ∷ 80 ∷ []) ∷ (67 ∷ 63 ∷ []) ∷ (60 ∷ 44 ∷ [])
    ∷ (106 ∷ 104 ∷ 103 ∷ []) ∷ (58 ∷ 50 ∷ 46 ∷ [])
    ∷ (40 ∷ 36 ∷ 35 ∷ 33 ∷ []) ∷ []

-- The set A of the pre-output function.
abbrev pub output_taps : List ℕ
output_taps = 2 ∷ 15 ∷ 36 ∷ 45 ∷ 64 ∷ 73 ∷ 89 ∷ []

module _ {A : Type 0} (over : Algebra A) where
  open over use {sum as ◌⊻◌, product as ◌·◌}

  infixl 60 ◌⊻◌
  infixl 70 ◌·◌
  abbrev pub nine : (x₀ x₁ x₂ x₃ x₄ x₅ x₆ x₇ x₈ : A) → A
  nine x₀ x₁ x₂ x₃ x₄ x₅ x₆ x₇ x₈ = x₀ · x₁ ⊻ x₂ · x₃ ⊻ x₄ · x₅ ⊻ x₆ · x₇ ⊻ x₀ · x₄ · x₈

  pub record Published (s b : ℕ → A) : Type 0 where
    pub lfsr : (functions over).linear s ≡ feedback over 128 f s
    pub nfsr : (functions over).nonlinear b ≡ feedback over 128 g b
    pub filter : h over s b ≡ nine (b 12) (s 8) (s 13) (s 20) (b 95) (s 42) (s 60) (s 79) (s 94)
    pub output : (functions over).output s b ≡ foldl ◌⊻◌ (h over s b ⊻ s 93) (map b output_taps)
