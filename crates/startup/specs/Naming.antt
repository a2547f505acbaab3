-- The edition that a number names.
use Rattle.std.specs.Prelude.{◌≡◌, ◌↔◌, Bool, true, cond, ◌||◌, ℕ, eqb}
use Rattle.machine.specs.declared.edition.Edition.{Edition}
use Rattle.machine.specs.declared.edition.Edition.TheVariants.{First, Second}
use Rattle.startup.specs.Editions.{number}

-- Whether a number names an edition.
unfoldable pub known : ℕ → Bool
known n = eqb n (number First) || eqb n (number Second)

-- The edition that it names; of a number that names none, nothing is asked.
unfoldable pub named : ℕ → Edition
named n = cond (eqb n (number Second)) Second First

-- Known are the numbers of the editions, and each names its own.
pub record Names (n : ℕ) : Type 0 where
  pub knows : (known n ≡ true) ↔ ((e : Edition) × (n ≡ number e))
  pub its : (e : Edition) → n ≡ number e → named n ≡ e
