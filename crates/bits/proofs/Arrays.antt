-- An array that a slice became.
-- Assumes nothing.
use mathlib.Core.Path.{◌≡◌}
use mathlib.Core.Logic.{◌≢◌}
use mathlib.Core.List.{List}
use Prim.Native.Nat.{ℕ}
use denote.Bor.{Bor}
use lib.ListN.{length}
use Rattle.std.specs.Prelude.{Result, Ok}
use Rattle.std.specs.Result.{IsOk, MatchResult}
use Rattle.std.specs.Array.{IsWholeChunk}

-- What `try_into` gave, once unwrapped, is the slice.
pub unwrapped_same : {A E : Type 0} {s : List A} {n : ℕ} {r : Result (Bor (List A)) E} {y : Bor (List A)}
    → (length s ≡ n → IsOk r) × MatchResult r (λ z. IsWholeChunk s z.now n) (λ _. length s ≢ n) → r ≡ Ok y → y.now ≡ s
unwrapped_same given e = (rw e at given.1).same
