-- A bit is a Bool. Its sum is the exclusive-or; its product is the library's `◌&&◌`.
use Rattle.std.specs.Prelude.{Bool, true, false, not, ℕ}

infixl 60 ◌⊻◌
abbrev pub ◌⊻◌ : Bool → Bool → Bool
true ⊻ b = not b
false ⊻ b = b

-- A bit as a number.
abbrev pub digit : Bool → ℕ
digit true = 1
digit false = 0
