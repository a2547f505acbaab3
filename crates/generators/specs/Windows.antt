-- A register's windows: some of its places, the last of them in the lowest bit of a word.
use Rattle.std.specs.Prelude.{◌≡◌, Bool, List, ℕ, suc, ◌+◌, ◌-◌, ◌<◌}
use Rattle.bits.specs.Bytes.{bit}
use Rattle.bits.specs.Strings.{places}

-- The word w k has the m places from k on, for every k below n.
pub record Windows (m n : ℕ) (r : List Bool) (w : ℕ → ℕ) : Type 0 where
  pub shows : (k i : ℕ) → k < n → i < m → bit (m - suc i) (w k) ≡ places r (k + i)
