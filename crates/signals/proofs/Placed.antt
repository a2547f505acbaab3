-- Where a signal lies that is not misplaced, and how many bits it has.
-- Assumes nothing.
use mathlib.Core.Path.{◌≡◌, refl}
use mathlib.Core.Bool.{Bool, true, false, true≢false, ◌||◌}
use Prim.Native.Nat.{ℕ, ◌+◌, ◌*◌, ◌≤◌}
use mathlib.Core.List.{List}
use native.Mathlib.Omega.{arith}
use borrow.Author.Tests.{ltb-false}
use lib.Dec.{ltb}
use lib.ListN.{length, drop, length-drop}
use lib.Seq.{length-take-le}
use Rattle.bits.specs.Bytes.{bits}
use Rattle.bits.proofs.Packing.{length-bits}
use Rattle.signals.specs.Raw.{misplaced, field}

-- The three tests of a signal that is not misplaced.
tests : (a b c : Bool) → (a || b || c) ≡ false → (a ≡ false) × (b ≡ false) × (c ≡ false)
tests true b c e = absurd (true≢false e)
tests false true c e = absurd (true≢false e)
tests false false c e = (refl, refl, e)

pub record Placed (n start width : ℕ) : Type 0 where
  pub least : 1 ≤ width
  pub most : width ≤ 32
  pub inside : start + width ≤ 8 * n

pub placed : (n start width : ℕ) → misplaced n start width ≡ false → Placed n start width
placed n start width e =
    let t = tests (ltb width 1) (ltb 32 width) (ltb (8 * n) (start + width)) e in
    record { least = ltb-false width 1 t.0; most = ltb-false 32 width t.1; inside = ltb-false (8 * n) (start + width) t.2 }

pub length-field : (message : List ℕ) (start width : ℕ) → start + width ≤ 8 * length message → length (field message start width) ≡ width
length-field message start width h =
    length-take-le width (drop start (bits message)) (omega (arith, length-drop start (bits message), length-bits message))
