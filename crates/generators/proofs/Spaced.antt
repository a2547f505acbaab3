-- The pre-outputs of every p-th clock: how many there are, which each is, and those of more clocks.
-- Assumes nothing.
use mathlib.Core.Path.{◌≡◌, refl, sym, ap, ◌∙◌}
use mathlib.Core.Bool.{Bool, false}
use mathlib.Core.List.{List, ◌∷◌, ◌++◌}
use Prim.Native.Nat.{ℕ, zero, suc, ◌+◌, ◌-◌, ◌*◌, ◌<◌, ◌≤◌}
use native.Mathlib.Nat.{mul-zero, zero-add, suc-add, le_of_suc-le-suc, not-suc-le-zero}
use native.Mathlib.Omega.{arith}
use lib.ListN.{length, get_or, take}
use lib.Seq.{take_at}
use Rattle.bits.specs.Times.{times}
use Rattle.bits.proofs.Times.{times-add}
use Rattle.generators.specs.Algebra.{single}
use Rattle.generators.specs.Functions.{Functions}
use Rattle.generators.specs.Generator.{Generator, preoutput, plain, every}

module _ (by : Functions single) (p : ℕ) where
  pub length-every : (n : ℕ) (g : Generator Bool) → length (every by p n g) ≡ n
  unfolding every
  length-every zero g = refl
  length-every (suc n) g = ap suc (length-every n _)

  -- The clocks of none, and of one and of n more.
  pub clocks-none : (g : Generator Bool) → times (p * 0) (plain by) g ≡ g
  unfolding times
  clocks-none g = ap (λ (k : ℕ). times k (plain by) g) (mul-zero p)

  clocks_more : (n : ℕ) (g : Generator Bool) → times (p * n) (plain by) (times p (plain by) g) ≡ times (p * suc n) (plain by) g
  clocks_more n g = times-add (plain by) p (p * n) g ∙ ap (λ (k : ℕ). times k (plain by) g) (omega arith)

  -- Each is the pre-output after p clocks for each before it.
  pub every-at : (n j : ℕ) (g : Generator Bool) → j < n → get_or (every by p n g) j false ≡ preoutput by (times (p * j) (plain by) g)
  unfolding every times
  every-at zero j g h = absurd (not-suc-le-zero h)
  every-at (suc n) zero g h = ap (preoutput by) (sym (clocks-none g))
  every-at (suc n) (suc j) g h = every-at n j (times p (plain by) g) (le_of_suc-le-suc h) ∙ ap (preoutput by) (clocks_more j g)

  -- The pre-outputs of more clocks are those of the first and those of the rest.
  pub every_append : (m n : ℕ) (g : Generator Bool) → every by p (m + n) g ≡ every by p m g ++ every by p n (times (p * m) (plain by) g)
  unfolding every times
  every_append zero n g = ap (λ (k : ℕ). every by p k g) (zero-add n) ∙ ap (every by p n) (sym (clocks-none g))
  every_append (suc m) n g =
      ap (λ (k : ℕ). every by p k g) (suc-add m n)
      ∙ ap (λ (r : List Bool). preoutput by g ∷ r) (every_append m n (times p (plain by) g))
      ∙ ap (λ (h : Generator Bool). every by p (suc m) g ++ every by p n h) (clocks_more m g)

  -- Those of fewer clocks are the first of them.
  pub take-every : (m n : ℕ) (g : Generator Bool) → m ≤ n → take m (every by p n g) ≡ every by p m g
  take-every m n g h =
      let whole : m + (n - m) ≡ n = omega arith in
      ap (λ (k : ℕ). take m (every by p k g)) (sym whole) ∙ ap (take m) (every_append m (n - m) g) ∙ take_at (every by p m g) _ m (length-every m g)
