-- Repeated application.
-- Assumes nothing.
use mathlib.Core.Path.{◌≡◌, refl, sym, ap, ◌∙◌}
use mathlib.Core.List.{List, [], ◌∷◌, ◌++◌}
use Prim.Native.Nat.{ℕ, zero, suc, ◌+◌}
use native.Mathlib.Nat.{zero-add, suc-add}
use lib.ListN.{replicate}
use Rattle.bits.specs.Times.{times, in_turn}

module _ {A : Type 0} (f : A → A) where
  -- The last application is as good as the first.
  pub times-last : (n : ℕ) (a : A) → f (times n f a) ≡ times (suc n) f a
  unfolding times
  times-last zero a = refl
  times-last (suc n) a = times-last n (f a)

  pub times-add : (m n : ℕ) (a : A) → times n f (times m f a) ≡ times (m + n) f a
  unfolding times
  times-add zero n a = ap (λ (k : ℕ). times k f a) (sym (zero-add n))
  times-add (suc m) n a = times-add m n (f a) ∙ ap (λ (k : ℕ). times k f a) (sym (suc-add m n))

-- What one application keeps, any number of them keep.
pub times_keeps : {A : Type 0} (f : A → A) (P : A → Type 0) → ((a : A) → P a → P (f a)) → (n : ℕ) (a : A) → P a → P (times n f a)
unfolding times
times_keeps f P keeps zero a p = p
times_keeps f P keeps (suc n) a p = times_keeps f P keeps n (f a) (keeps a p)

pub in_turn-append : {A : Type 0} (fs gs : List (A → A)) (a : A) → in_turn (fs ++ gs) a ≡ in_turn gs (in_turn fs a)
unfolding in_turn
in_turn-append [] gs a = refl
in_turn-append (f ∷ fs) gs a = in_turn-append fs gs (f a)

pub in_turn-replicate : {A : Type 0} (n : ℕ) (f : A → A) (a : A) → in_turn (replicate n f) a ≡ times n f a
unfolding in_turn times
in_turn-replicate zero f a = refl
in_turn-replicate (suc n) f a = in_turn-replicate n f (f a)
