-- Bits by their places, and a word so.
-- Assumes nothing.
use mathlib.Core.Path.{◌≡◌, refl, sym, ap, ap₂, ◌∙◌}
use mathlib.Core.Bool.{Bool, false}
use mathlib.Core.List.{List, ◌∷◌}
use Prim.Native.Nat.{ℕ, zero, suc, ◌-◌, ◌*◌, ◌<◌, ◌≤◌}
use native.Mathlib.Omega.{arith}
use lib.ListN.{length, take}
use lib.Seq.{ext_get_or}
use Rattle.bits.specs.Bytes.{bit, word}
use Rattle.bits.specs.Strings.{places}
use Rattle.bits.specs.Times.{times}
use Rattle.generators.specs.Algebra.{single}
use Rattle.generators.specs.Functions.{Functions}
use Rattle.generators.specs.Generator.{Generator, preoutput, plain, every}
use Rattle.generators.proofs.Spaced.{length-every, every-at}
use Rattle.generators.specs.Strokes.{listed}

pub listed_agrees : (n : ℕ) (f g : ℕ → Bool) → ((i : ℕ) → i < n → f i ≡ g i) → listed n f ≡ listed n g
unfolding listed
listed_agrees zero f g e = refl
listed_agrees (suc n) f g e = ap₂ ◌∷◌ (e 0 (omega arith)) (listed_agrees n (λ i. f (suc i)) (λ i. g (suc i)) (λ i h. e (suc i) (omega arith)))

pub take-listed : (n m : ℕ) (f : ℕ → Bool) → n ≤ m → take n (listed m f) ≡ listed n f
unfolding listed
take-listed zero m f h = refl
take-listed (suc n) zero f h = absurd (omega arith)
take-listed (suc n) (suc m) f h = ap (λ (s : List Bool). f 0 ∷ s) (take-listed n m (λ i. f (suc i)) (omega arith))

pub length-listed : (n : ℕ) (f : ℕ → Bool) → length (listed n f) ≡ n
unfolding listed
length-listed zero f = refl
length-listed (suc n) f = ap suc (length-listed n (λ i. f (suc i)))

pub places-listed : (n : ℕ) (f : ℕ → Bool) (i : ℕ) → i < n → places (listed n f) i ≡ f i
unfolding listed
places-listed zero f i h = absurd (omega arith)
places-listed (suc n) f zero h = refl
places-listed (suc n) f (suc i) h = places-listed n (λ k. f (suc k)) i (omega arith)

pub word-listed : (n x : ℕ) → word n x ≡ listed n (λ i. bit (n - suc i) x)
unfolding word listed
word-listed zero x = refl
word-listed (suc n) x =
    ap₂ ◌∷◌ (ap (λ (k : ℕ). bit k x) (omega arith))
    (word-listed n x ∙ listed_agrees n (λ i. bit (n - suc i) x) (λ i. bit (suc n - suc (suc i)) x) (λ i h. ap (λ (k : ℕ). bit k x) (omega arith)))

-- Every p-th pre-output, by its clock.
pub every-listed : (by : Functions single) (p n : ℕ) (g : Generator Bool) → every by p n g ≡ listed n (λ i. preoutput by (times (p * i) (plain by) g))
every-listed by p n g =
    ext_get_or false (every by p n g) (listed n at) (length-every by p n g ∙ sym (length-listed n at))
    (λ i h. let l : i < n = omega (arith, length-every by p n g) in every-at by p n i g l ∙ sym (places-listed n at i l))
  where
    at : ℕ → Bool
    at i = preoutput by (times (p * i) (plain by) g)
