-- What it means that a call is in its turn, and that counts can occur.
-- Assumes nothing.
use mathlib.Core.Path.{◌≡◌}
use mathlib.Core.Logic.{◌⊎◌}
use mathlib.Core.Bool.{true, false}
use Prim.Native.Nat.{ℕ, ◌+◌, ◌≤◌}
use native.Mathlib.Omega.{arith}
use Rattle.std.proofs.lemmas.Bool.Decides.{nat_tests}
use Rattle.stream_checks.specs.declared.counts.Kind.{Kind}
use Rattle.stream_checks.specs.declared.counts.Counts.{Counts}
use Rattle.stream_checks.specs.Counts.{number, can_occur, ad_out_of_turn, out_of_turn}

module _ (kind : Kind) (c : Counts) where
  -- The stream is of the call's kind, and open.
  pub record Its : Type 0 where
    pub kinds : c.kind ≡ number kind
    pub unended : c.phase ≡ 0

  pub ad-in_turn : (n : ℕ) → ad_out_of_turn kind c n ≡ false → Its × (c.ad + n ≤ c.announced)
  ad-in_turn n h = (record { kinds = grind (arith, nat_tests); unended = grind (arith, nat_tests) }, grind (arith, nat_tests))

  pub in_turn_lem : out_of_turn kind c ≡ false → Its × (c.ad ≡ c.announced)
  in_turn_lem h = (record { kinds = grind (arith, nat_tests); unended = grind (arith, nat_tests) }, grind (arith, nat_tests))

  module _ (i : Its) where
    pub in_turn-ad : (n : ℕ) → c.ad + n ≤ c.announced → ad_out_of_turn kind c n ≡ false
    in_turn-ad n h = grind (arith, nat_tests)

    pub in_turn-text : c.ad ≡ c.announced → out_of_turn kind c ≡ false
    in_turn-text h = grind (arith, nat_tests)

-- Counts that can occur, by what is asked of them.
pub can_occur_lem : (limit : ℕ) (c : Counts) → (c.kind ≡ 1) ⊎ (c.kind ≡ 2) → (c.phase ≡ 0) ⊎ (c.phase ≡ 1) → c.ad ≤ c.announced → (c.message ≡ 0) ⊎ (c.ad ≡ c.announced)
    → c.message ≤ limit → (c.phase ≡ 0) ⊎ (c.ad ≡ c.announced) → can_occur limit c ≡ true
can_occur_lem limit c kind phase ad text message behind = grind (arith, nat_tests)
