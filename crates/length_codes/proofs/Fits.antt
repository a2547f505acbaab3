-- The answers of the table fit a signed number.
-- Assumes nothing.
use mathlib.Core.Path.{◌≡◌, refl}
use mathlib.Core.Bool.{Bool, true, false, cond}
use Prim.Native.Nat.{ℕ, ◌^◌, ◌<◌}
use native.Mathlib.Nat.{lt_trans}
use native.Mathlib.Omega.{arith}
use borrow.Author.Tests.{ltb-false, lt-ltb}
use lib.Dec.{ltb, lit<}
use Rattle.refusals.specs.declared.Refusal.TheVariants.{NotCodedLength}
use Rattle.std.specs.Prelude.{Ok, Err}
use Rattle.refusals.specs.Signed.{capped}
use Rattle.length_codes.specs.LengthCodes.{coded_length, length_code}
use Rattle.length_codes.specs.Calls.{length_of, code_of}
use Rattle.length_codes.proofs.Rule.{table}

-- A refusal, or a count of less than 65.
small : (over : Bool) (n : ℕ) → (over ≡ false → n < 65) → capped (cond over (Err NotCodedLength) (Ok n)) ≡ cond over (Err NotCodedLength) (Ok n)
small true n h = refl
small false n h = simp (lt-ltb n (2 ^ 63) (lt_trans (h refl) (lit< tt)))

pub length_fits : (code : ℕ) → capped (length_of code) ≡ length_of code
length_fits code = small (ltb 15 code) (coded_length code) (λ e. omega (arith, table.within code (omega (arith, ltb-false 15 code e))))

pub code_fits : (n : ℕ) → capped (code_of n) ≡ code_of n
code_fits n = small (ltb 64 n) (length_code n) (λ e. omega (arith, table.is_code n (ltb-false 64 n e)))
