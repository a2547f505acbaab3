-- What usable numbers of a signal are: all four finite, and the high limit not below the low one.
-- Assumes nothing.
use mathlib.Core.Path.{◌≡◌, refl}
use mathlib.Core.Bool.{Bool, true, false, true≢false, not, ◌||◌, and-eq-true_iff}
use lib.Ieee.{lt}
use lib.Ieee.Scale.{finite}
use Rattle.signals.specs.declared.Scaling.{Scaling}
use Rattle.signals.specs.Values.{unusable}

pub record Usable (s : Scaling) : Type 0 where
  pub scale : finite s.scale ≡ true
  pub offset : finite s.offset ≡ true
  pub low : finite s.low ≡ true
  pub high : finite s.high ≡ true
  pub ordered : lt s.high s.low ≡ false

neither : (p q : Bool) → (not p || q) ≡ false → (p ≡ true) × (q ≡ false)
neither true q e = (refl, e)
neither false q e = absurd (true≢false e)

pub usable : (s : Scaling) → unusable s ≡ false → Usable s
usable s e =
    let all = neither _ (lt s.high s.low) e in
    let three = (and-eq-true_iff _ (finite s.high)).0 all.0 in
    let two = (and-eq-true_iff _ (finite s.low)).0 three.0 in
    let one = (and-eq-true_iff (finite s.scale) (finite s.offset)).0 two.0 in
    record { scale = one.0; offset = one.1; low = two.1; high = three.1; ordered = all.1 }
