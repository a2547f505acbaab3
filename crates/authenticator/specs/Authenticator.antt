-- The authenticator: an accumulator and a register of the same width (source document 000, sections 2.1 and 2.3).
use Rattle.std.specs.Prelude.{◌≡◌, Bool, cond, List, [], ◌∷◌, ℕ, zero, suc, length}
use Rattle.bits.specs.Strings.{◌⊞◌, shift}

pub record Authenticator : Type 0 where
  pub accumulator : List Bool
  pub register : List Bool

-- The accumulator and the register have w places each.
pub record Sized (w : ℕ) (a : Authenticator) : Type 0 where
  pub accumulator : length a.accumulator ≡ w
  pub register : length a.register ≡ w

-- If a string bit is 1, the register is added into the accumulator.
unfoldable pub add : Authenticator → Bool → Authenticator
add a m = record { accumulator = cond m (a.accumulator ⊞ a.register) a.accumulator; register = a.register }

-- The register moves one place down and takes a new bit.
unfoldable pub move : Authenticator → Bool → Authenticator
move a new = record { accumulator = a.accumulator; register = shift a.register new }

-- One string bit m: first the register is added, then it moves.
unfoldable pub absorb : Authenticator → (m new : Bool) → Authenticator
absorb a m new = move (add a m) new

-- A string of bits. The register takes bit i of a stream at position i.
unfoldable pub absorb_all : Authenticator → List Bool → (ℕ → Bool) → Authenticator
absorb_all a [] new = a
absorb_all a (m ∷ s) new = absorb_all (absorb a m (new 0)) s (λ i. new (suc i))

-- The register after i positions.
unfoldable pub register_after : List Bool → (ℕ → Bool) → ℕ → List Bool
register_after r new zero = r
register_after r new (suc i) = register_after (shift r (new 0)) (λ j. new (suc j)) i
