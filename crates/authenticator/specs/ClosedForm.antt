-- The tag in closed form: what a string adds to the accumulator.
use Rattle.std.specs.Prelude.{◌≡◌, Bool, true, false, List, [], ◌∷◌, ℕ, suc, ◌<◌, length}
use Rattle.bits.specs.Strings.{◌⊞◌, zeros}
use Rattle.authenticator.specs.Authenticator.{Authenticator, Sized, absorb_all, register_after}

-- The exclusive-or of the registers at the positions, counted from i, whose bit in the string is 1: with none, w zeros.
unfoldable pub registers_at : (w : ℕ) → (ℕ → List Bool) → (i : ℕ) → List Bool → List Bool
registers_at w R i [] = zeros w
registers_at w R i (true ∷ s) = R i ⊞ registers_at w R (suc i) s
registers_at w R i (false ∷ s) = registers_at w R (suc i) s

-- The accumulator after a string is the accumulator before it plus the registers at the positions whose bit is 1: at any width, for
-- strings of any length.
abbrev pub ClosedForm : Type 0
ClosedForm =
    (w : ℕ) (a : Authenticator) (s : List Bool) (new : ℕ → Bool) → 0 < w → Sized w a
    → (absorb_all a s new).accumulator ≡ a.accumulator ⊞ registers_at w (register_after a.register new) 0 s

-- The register depends on the string's length and on none of its bits.
abbrev pub Independent : Type 0
Independent = (a : Authenticator) (s : List Bool) (new : ℕ → Bool) → (absorb_all a s new).register ≡ register_after a.register new (length s)
