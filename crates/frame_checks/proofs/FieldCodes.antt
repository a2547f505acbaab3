-- The codes of fields, from the rule of the table.
-- Assumes nothing.
use mathlib.Core.Path.{◌≡◌, refl}
use mathlib.Core.Bool.{true}
use Prim.Native.Nat.{◌+◌}
use native.Mathlib.Nat.{le_of_suc-le-suc}
use native.Mathlib.Omega.{arith}
use borrow.Author.Tests.{leb-true}
use lib.Dec.{leb}
use Rattle.length_codes.specs.LengthCodes.{coded_lengths, first_holding, length_code}
use Rattle.length_codes.specs.Rule.{below}
use Rattle.length_codes.proofs.Rule.{below_at, table}
use Rattle.frame_checks.specs.Layout.{overhead, field_code, FieldCodes}

computed : below 56 (λ m. leb 9 (field_code m)) ≡ true
unfolding below length_code first_holding coded_lengths
computed = refl

pub field_codes : FieldCodes
unfolding length_code first_holding coded_lengths
field_codes = record {
  examples = refl;
  least = λ m h. leb-true 9 (field_code m) (below_at 56 (λ k. leb 9 (field_code k)) computed m (omega arith));
  most = λ m h. le_of_suc-le-suc (table.is_code (m + overhead) (omega arith));
  holds = λ m h. table.holds (m + overhead) (omega arith);
  within = λ m h. table.within (field_code m) (table.is_code (m + overhead) (omega arith));
  smallest = λ m code h. table.smallest (m + overhead) code (omega arith);
  beyond = refl;
}
