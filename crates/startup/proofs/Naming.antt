-- The edition that a number names.
-- Assumes nothing.
use mathlib.Core.Path.{◌≡◌, refl, ap}
use mathlib.Core.Bool.{Bool, true, false, false≢true, ◌||◌}
use Prim.Native.Nat.{ℕ}
use borrow.Author.Tests.{eqb-true}
use lib.Dec.{eqb}
use Rattle.machine.specs.declared.edition.Edition.{Edition}
use Rattle.machine.specs.declared.edition.Edition.TheVariants.{First, Second}
use Rattle.startup.specs.Editions.{number}
use Rattle.startup.specs.Naming.{known, named, Names}

names_its : (n : ℕ) (e : Edition) → n ≡ number e → named n ≡ e
unfolding named
names_its n First h = ap named h
names_its n Second h = ap named h

knows-its : (n : ℕ) (e : Edition) → n ≡ number e → known n ≡ true
unfolding known
knows-its n First h = ap known h
knows-its n Second h = ap known h

its-number : (n : ℕ) (a b : Bool) → eqb n 1 ≡ a → eqb n 2 ≡ b → (a || b) ≡ true → (e : Edition) × (n ≡ number e)
its-number n true b ha hb h = (First, eqb-true n 1 ha)
its-number n false true ha hb h = (Second, eqb-true n 2 hb)
its-number n false false ha hb h = absurd (false≢true h)

pub names : (n : ℕ) → Names n
unfolding known
names n = record {
  knows = (its-number n (eqb n 1) (eqb n 2) refl refl, λ h. knows-its n h.0 h.1);
  its = names_its n;
}
