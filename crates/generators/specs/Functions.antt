-- The functions of a Grain cipher. s gives the content of each place of the LFSR, b that of the NFSR.
use Rattle.std.specs.Prelude.{◌≡◌, Bool, false, cond, ℕ, ltb}
use Rattle.generators.specs.Algebra.{Algebra, single}

-- Over an algebra: the feedback of the LFSR, that of the NFSR, and the pre-output.
pub record Functions {A : Type 0} (over : Algebra A) : Type 0 where
  pub linear : (s : ℕ → A) → A
  pub nonlinear : (b : ℕ → A) → A
  pub output : (s b : ℕ → A) → A

-- The functions over two algebras are the same text: what keeps sums and products keeps them.
pub record Kept {A B : Type 0} {over : Algebra A} {under : Algebra B} (by : Functions over) (to : Functions under) (f : A → B) : Type 0 where
  pub linear : (s : ℕ → A) → f (by.linear s) ≡ to.linear (λ k. f (s k))
  pub nonlinear : (b : ℕ → A) → f (by.nonlinear b) ≡ to.nonlinear (λ k. f (b k))
  pub output : (s b : ℕ → A) → f (by.output s b) ≡ to.output (λ k. f (s k)) (λ k. f (b k))

-- What is seen of the places below the n-th.
abbrev pub below : (n : ℕ) → (ℕ → Bool) → ℕ → Bool
below n s k = cond (ltb k n) (s k) false

-- Every tap is below place n: nothing of the places from there on is seen.
pub record Taps (n : ℕ) (by : Functions single) : Type 0 where
  pub linear : (s : ℕ → Bool) → by.linear (below n s) ≡ by.linear s
  pub nonlinear : (b : ℕ → Bool) → by.nonlinear (below n b) ≡ by.nonlinear b
  pub output : (s b : ℕ → Bool) → by.output (below n s) (below n b) ≡ by.output s b
