-- The eSTREAM specification's printed form: two feedback polynomials, h of five variables, and the set A. The functions are
-- these, place 80 - e for x to the e.
use Rattle.std.specs.Prelude.{◌≡◌, ℕ}
use mathlib.Core.List.{List, [], ◌∷◌, map, foldl}
use Rattle.generators.specs.Algebra.{Algebra}
use Rattle.generators.specs.Polynomial.{joined, feedback}
use Rattle.grainv1.specs.Functions.{h, functions}

abbrev pub f : List (List ℕ)
f = (18 ∷ []) ∷ (29 ∷ []) ∷ (42 ∷ []) ∷ (57 ∷ []) ∷ (67 ∷ []) ∷ (80 ∷ []) ∷ []

abbrev pub g : List (List ℕ)
g =
    (18 ∷ []) ∷ (20 ∷ []) ∷ (28 ∷ []) ∷ (35 ∷ []) ∷ (43 ∷ []) ∷ (47 ∷ []) ∷ (52 ∷ []) ∷ (59 ∷ []) ∷ (66 ∷ []) ∷ (71 ∷ []) ∷ (80 ∷ [])
    ∷ (17 ∷ 20 ∷ []) ∷ (43 ∷ 47 ∷ []) ∷ (65 ∷ 71 ∷ [])
    ∷ (20 ∷ 28 ∷ 35 ∷ []) ∷ (47 ∷ 52 ∷ 59 ∷ [])
    ∷ (17 ∷ 35 ∷ 52 ∷ 71 ∷ []) ∷ (20 ∷ 28 ∷ 43 ∷ 47 ∷ []) ∷ (17 ∷ 20 ∷ 59 ∷ 65 ∷ [])
    ∷ (17 ∷ 20 ∷ 28 ∷ 35 ∷ 43 ∷ []) ∷ (47 ∷ 52 ∷ 59 ∷ 65 ∷ 71 ∷ [])
    ∷ (28 ∷ 35 ∷ 43 ∷ 47 ∷ 52 ∷ 59 ∷ []) ∷ []

-- The monomials of h, each the list of its variables.
abbrev pub h_terms : List (List ℕ)
h_terms =
    (1 ∷ []) ∷ (4 ∷ []) ∷ (0 ∷ 3 ∷ []) ∷ (2 ∷ 3 ∷ []) ∷ (3 ∷ 4 ∷ [])
    ∷ (0 ∷ 1 ∷ 2 ∷ []) ∷ (0 ∷ 2 ∷ 3 ∷ []) ∷ (0 ∷ 2 ∷ 4 ∷ []) ∷ (1 ∷ 2 ∷ 4 ∷ []) ∷ (2 ∷ 3 ∷ 4 ∷ []) ∷ []

-- The set A of the output function.
abbrev pub output_taps : List ℕ
output_taps = 1 ∷ 2 ∷ 4 ∷ 10 ∷ 31 ∷ 43 ∷ 56 ∷ []

module _ {A : Type 0} (over : Algebra A) where
  pub record Published (s b x : ℕ → A) : Type 0 where
    pub lfsr : (functions over).linear s ≡ feedback over 80 f s
    pub nfsr : (functions over).nonlinear b ≡ feedback over 80 g b
    pub filter : h over (x 0) (x 1) (x 2) (x 3) (x 4) ≡ joined over over.sum (map (λ m. joined over over.product (map x m)) h_terms)
    pub output : (functions over).output s b ≡ foldl over.sum (h over (s 3) (s 25) (s 46) (s 64) (b 63)) (map b output_taps)
