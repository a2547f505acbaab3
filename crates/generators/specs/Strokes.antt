-- A stroke: what some clocks do, from the registers before the first of them. Where no tap lies so high that they would see a new bit, place k is
-- i clocks later what place k + i was.
use Rattle.std.specs.Prelude.{Bool, ℕ, zero, suc, ◌+◌}
use mathlib.Core.List.{List, [], ◌∷◌, foldl}
use Rattle.bits.specs.Strings.{shift, places}
use Rattle.generators.specs.Algebra.{single}
use Rattle.generators.specs.Functions.{Functions}
use Rattle.generators.specs.Generator.{Generator, lfsr_bit, nfsr_bit}
use Rattle.generators.specs.Running.{Running}

-- n bits by their places.
unfoldable pub listed : ℕ → (ℕ → Bool) → List Bool
listed zero f = []
listed (suc n) f = f 0 ∷ listed n (λ i. f (suc i))

-- The content of each place i clocks later.
abbrev pub later : List Bool → (i : ℕ) → ℕ → Bool
later r i k = places r (k + i)

module _ (by : Functions single) where
  -- The pre-output of clock i and its new bits, each with what is added to it.
  abbrev pub output_at : Generator Bool → ℕ → Bool
  output_at g i = by.output (later g.lfsr i) (later g.nfsr i)

  abbrev pub lfsr_bit_at : Generator Bool → (added : ℕ → Bool) → ℕ → Bool
  lfsr_bit_at g added i = lfsr_bit by (later g.lfsr i) (added i)

  abbrev pub nfsr_bit_at : Generator Bool → (added : ℕ → Bool) → ℕ → Bool
  nfsr_bit_at g added i = nfsr_bit by (later g.lfsr i) (later g.nfsr i) (added i)

  unfoldable pub stroked : ℕ → (to_lfsr to_nfsr : ℕ → Bool) → Generator Bool → Generator Bool
  stroked n to_lfsr to_nfsr g = record {
    lfsr = foldl shift g.lfsr (listed n (lfsr_bit_at g to_lfsr));
    nfsr = foldl shift g.nfsr (listed n (nfsr_bit_at g to_nfsr));
  }

  -- With the pre-outputs.
  unfoldable pub stroked_run : ℕ → (to_lfsr to_nfsr : ℕ → Bool) → Running → Running
  stroked_run n to_lfsr to_nfsr r = record { generator = stroked n to_lfsr to_nfsr r.generator; outputs = foldl shift r.outputs (listed n (output_at r.generator)) }
