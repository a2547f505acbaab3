-- The difference of two numbers of 32 bits, as signed words of 64 bits have it.
-- Assumes nothing.
use mathlib.Core.Path.{◌≡◌, sym, ap₂, subst}
use mathlib.Core.Bool.{Bool, true, false, cond}
use Prim.Native.Nat.{ℕ, zero, suc, ◌-◌, ◌^◌, ◌<◌}
use native.Mathlib.Omega.{arith}
use lib.Dec.{ltb}
use lib.IntN.{pos, negsuc, ◌-ℤ◌}
use mir.Syntax.{w64}
use mir.Val.{SFits, to_z}
use mir.ValLaws.{to_z_pos}

fits : (a b : ℕ) → a < 2 ^ 32 → b < 2 ^ 32 → SFits w64 (pos a -ℤ pos b)
fits a zero h k = record { sfits = omega arith }
fits a (suc b) h k = go (ltb a (suc b))
  where
    go : (t : Bool) → SFits w64 (cond t (negsuc (suc b - suc a)) (pos (a - suc b)))
    go true = record { sfits = omega arith }
    go false = record { sfits = omega arith }

pub as_signed : (a b : ℕ) → a < 2 ^ 32 → b < 2 ^ 32 → to_z w64 a -ℤ to_z w64 b ≡ pos a -ℤ pos b
as_signed a b h k = ap₂ ◌-ℤ◌ (to_z_pos w64 a (omega arith)) (to_z_pos w64 b (omega arith))

pub signed_fits : (a b : ℕ) → a < 2 ^ 32 → b < 2 ^ 32 → SFits w64 (to_z w64 a -ℤ to_z w64 b)
signed_fits a b h k = subst (SFits w64) (sym (as_signed a b h k)) (fits a b h k)
