-- Nonce bit 0, from the first byte.
-- Assumes nothing.
use mathlib.Core.Path.{◌≡◌, refl}
use mathlib.Core.List.{List, [], ◌∷◌}
use Prim.Native.Nat.{ℕ, zero, suc, ◌/◌, ◌<◌}
use native.Mathlib.Omega.{arith}
use lib.Dec.{eqb}
use lib.ListN.{get_or}
use Rattle.std.proofs.Common.{Option, Some, None, MatchOption, option_copied, slice_get, Bor}
use Rattle.bits.specs.Bytes.{lowest, word, bits}
use Rattle.mode_checks.specs.Modes.{mode_bit}
use mathlib.Core.Bool.{Bool, false}

-- What the first byte, if there is one, says of nonce bit 0.
pub first_mode : (nonce : List ℕ) (first : Option (Bor ℕ)) (r : Bool) → get_or nonce 0 0 < 256 → option_copied first ≡ slice_get nonce 0 → MatchOption first (r ≡ false) (λ byte. r ≡ eqb (byte.now / 128) 1) → r ≡ mode_bit nonce
unfolding mode_bit bits word
first_mode [] None r small e m = m
first_mode [] (Some x) r small e m = absurd cc
first_mode (b ∷ s) None r small e m = absurd cc
first_mode (b ∷ s) (Some x) r small e m = let t = top (b / 128) (omega arith) in cc
  where
    top : (q : ℕ) → q < 2 → lowest q ≡ eqb q 1
    top zero l = refl
    top (suc zero) l = refl
    top (suc (suc q)) l = absurd (omega arith)
