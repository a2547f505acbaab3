-- The registers at the 1 bits of a string add up linearly: over sums, over joins, over zeros, and under maps that keep sums.
-- Assumes nothing.
use mathlib.Core.Path.{◌≡◌, refl, sym, ap, ap₂, ◌∙◌}
use mathlib.Core.Bool.{Bool, true, false}
use mathlib.Core.List.{List, [], ◌∷◌, ◌++◌}
use Prim.Native.Nat.{ℕ, zero, suc, ◌+◌, ◌<◌}
use native.Mathlib.Nat.{le_of_eq, zero-add, add-zero, add-suc, suc-add}
use native.Mathlib.Omega.{arith}
use lib.ListN.{length, length-replicate}
use Rattle.bits.specs.Strings.{◌⊞◌, zeros}
use Rattle.bits.proofs.Sum.{sum_comm, sum_assoc, sum_left_comm, sum_zeros, sum_twice, length-sum}
use Rattle.authenticator.specs.ClosedForm.{registers_at}

-- Counting from one position further reads the next registers.
pub registers_at-suc : (w : ℕ) (R : ℕ → List Bool) (i : ℕ) (s : List Bool) → registers_at w (λ j. R (suc j)) i s ≡ registers_at w R (suc i) s
unfolding registers_at
registers_at-suc w R i [] = refl
registers_at-suc w R i (true ∷ s) = ap (λ (r : List Bool). R (suc i) ⊞ r) (registers_at-suc w R (suc i) s)
registers_at-suc w R i (false ∷ s) = registers_at-suc w R (suc i) s

-- So does counting from k positions further.
pub registers_at_from : (w : ℕ) (R : ℕ → List Bool) (k : ℕ) (s : List Bool) → registers_at w R k s ≡ registers_at w (λ j. R (j + k)) 0 s
registers_at_from w R zero s = λ p. registers_at w (λ j. R (sym (add-zero j) p)) 0 s
registers_at_from w R (suc k) s =
    sym (registers_at-suc w R k s) ∙ registers_at_from w (λ j. R (suc j)) k s ∙ (λ p. registers_at w (λ j. R (sym (add-suc j k) p)) 0 s)

-- A map of strings that keeps sums and zeros takes the sum of registers to the sum of what it makes of each.
pub registers_at-map : (w v : ℕ) (f : List Bool → List Bool) → f (zeros w) ≡ zeros v → ((s t : List Bool) → f (s ⊞ t) ≡ f s ⊞ f t)
    → (R : ℕ → List Bool) (i : ℕ) (s : List Bool) → f (registers_at w R i s) ≡ registers_at v (λ j. f (R j)) i s
unfolding registers_at
registers_at-map w v f none keeps R i [] = none
registers_at-map w v f none keeps R i (true ∷ s) =
    keeps (R i) (registers_at w R (suc i) s) ∙ ap (λ (r : List Bool). f (R i) ⊞ r) (registers_at-map w v f none keeps R (suc i) s)
registers_at-map w v f none keeps R i (false ∷ s) = registers_at-map w v f none keeps R (suc i) s

-- Registers that are sums add up to the sum of what their parts add up to.
pub registers_at_plus : (w : ℕ) (T R S : ℕ → List Bool) (i : ℕ) (s : List Bool)
    → ((j : ℕ) → j < i + length s → T j ≡ R j ⊞ S j) → registers_at w T i s ≡ registers_at w R i s ⊞ registers_at w S i s
unfolding registers_at
registers_at_plus w T R S i [] e = sym (sum_zeros (zeros w) w (le_of_eq (sym (length-replicate w false))))
registers_at_plus w T R S i (true ∷ s) e =
    ap₂ ◌⊞◌ (e i (omega arith)) (registers_at_plus w T R S (suc i) s (λ j h. e j (omega arith))) ∙ sum_assoc (R i) (S i) (A ⊞ B)
    ∙ ap (λ (r : List Bool). R i ⊞ r) (sum_left_comm (S i) A B) ∙ sym (sum_assoc (R i) A (S i ⊞ B))
  where
    A : List Bool
    A = registers_at w R (suc i) s

    B : List Bool
    B = registers_at w S (suc i) s
registers_at_plus w T R S i (false ∷ s) e = registers_at_plus w T R S (suc i) s (λ j h. e j (omega arith))

pub registers_at-zeros : (w : ℕ) (R : ℕ → List Bool) (i n : ℕ) → registers_at w R i (zeros n) ≡ zeros w
unfolding registers_at
registers_at-zeros w R i zero = refl
registers_at-zeros w R i (suc n) = registers_at-zeros w R (suc i) n

module _ (w : ℕ) (R : ℕ → List Bool) (wide : (i : ℕ) → length (R i) ≡ w) where
  pub length-registers_at : (i : ℕ) (s : List Bool) → length (registers_at w R i s) ≡ w
  unfolding registers_at
  length-registers_at i [] = length-replicate w false
  length-registers_at i (true ∷ s) = length-sum (R i) (registers_at w R (suc i) s) (wide i ∙ sym (length-registers_at (suc i) s)) ∙ wide i
  length-registers_at i (false ∷ s) = length-registers_at (suc i) s

  -- w zeros add nothing.
  zeros-sum : (r : List Bool) → length r ≡ w → zeros w ⊞ r ≡ r
  zeros-sum r e = sum_comm (zeros w) r ∙ sum_zeros r w (le_of_eq (sym e))

  pub registers_at-append : (i : ℕ) (s t : List Bool) → registers_at w R i (s ++ t) ≡ registers_at w R i s ⊞ registers_at w R (i + length s) t
  unfolding registers_at
  registers_at-append i [] t = ap (λ (j : ℕ). registers_at w R j t) (sym (add-zero i)) ∙ sym (zeros-sum (registers_at w R (i + 0) t) (length-registers_at (i + 0) t))
  registers_at-append i (true ∷ s) t =
      ap (λ (r : List Bool). R i ⊞ r) (registers_at-append (suc i) s t ∙ ap (λ (j : ℕ). registers_at w R (suc i) s ⊞ registers_at w R j t) (suc-add i (length s) ∙ sym (add-suc i (length s))))
      ∙ sym (sum_assoc (R i) (registers_at w R (suc i) s) (registers_at w R (i + suc (length s)) t))
  registers_at-append i (false ∷ s) t = registers_at-append (suc i) s t ∙ ap (λ (j : ℕ). registers_at w R (suc i) s ⊞ registers_at w R j t) (suc-add i (length s) ∙ sym (add-suc i (length s)))

  pub registers_at-sum : (i : ℕ) (s t : List Bool) → registers_at w R i (s ⊞ t) ≡ registers_at w R i s ⊞ registers_at w R i t
  unfolding registers_at ◌⊞◌
  registers_at-sum i [] t = sym (zeros-sum (registers_at w R i t) (length-registers_at i t))
  registers_at-sum i (a ∷ s) [] = sym (sum_zeros (registers_at w R i (a ∷ s)) w (le_of_eq (sym (length-registers_at i (a ∷ s)))))
  registers_at-sum i (true ∷ s) (true ∷ t) =
      registers_at-sum (suc i) s t ∙ sym (sum_twice (R i) (A ⊞ B) (le_of_eq (wide i ∙ sym (length-sum A B (length-registers_at (suc i) s ∙ sym (length-registers_at (suc i) t)) ∙ length-registers_at (suc i) s))))
      ∙ ap (λ (r : List Bool). R i ⊞ r) (sum_left_comm (R i) A B) ∙ sym (sum_assoc (R i) A (R i ⊞ B))
    where
      A : List Bool
      A = registers_at w R (suc i) s

      B : List Bool
      B = registers_at w R (suc i) t
  registers_at-sum i (true ∷ s) (false ∷ t) = ap (λ (r : List Bool). R i ⊞ r) (registers_at-sum (suc i) s t) ∙ sym (sum_assoc (R i) (registers_at w R (suc i) s) (registers_at w R (suc i) t))
  registers_at-sum i (false ∷ s) (true ∷ t) = ap (λ (r : List Bool). R i ⊞ r) (registers_at-sum (suc i) s t) ∙ sum_left_comm (R i) (registers_at w R (suc i) s) (registers_at w R (suc i) t)
  registers_at-sum i (false ∷ s) (false ∷ t) = registers_at-sum (suc i) s t

  -- Zeros before and behind a string only move its positions.
  pub registers_at_between : (n m : ℕ) (s : List Bool) → registers_at w R 0 (zeros n ++ (s ++ zeros m)) ≡ registers_at w R n s
  registers_at_between n m s =
      registers_at-append 0 (zeros n) (s ++ zeros m)
      ∙ ap₂ (λ (r : List Bool) (i : ℕ). r ⊞ registers_at w R i (s ++ zeros m)) (registers_at-zeros w R 0 n) (zero-add (length (zeros n)) ∙ length-replicate n false)
      ∙ zeros-sum (registers_at w R n (s ++ zeros m)) (length-registers_at n (s ++ zeros m))
      ∙ registers_at-append n s (zeros m)
      ∙ ap (λ (r : List Bool). registers_at w R n s ⊞ r) (registers_at-zeros w R (n + length s) m)
      ∙ sum_zeros (registers_at w R n s) w (le_of_eq (sym (length-registers_at n s)))
