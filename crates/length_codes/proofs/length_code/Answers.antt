-- `length_codes::length_code` meets its contract.
use native.Mathlib.Omega.{arith}
use borrow.Author.Tests.{ltb-true, ltb-false}
use lib.Dec.{ltb}
use Rattle.std.proofs.Common.{rules, tests}
use Rattle.std.proofs.lemmas.List.Sorted.{IsPartitionPoint-from_clause, IsPartitionedBy-ltb}
use Rattle.length_codes.specs.LengthCodes.{coded_lengths, length_code}
use Rattle.length_codes.proofs.Search.{first_at, rising}
use Rattle.length_codes.proofs.length_code.Goals as goal

pub returns : goal.returns
unfolding coded_lengths length_code
returns c =
    let n = c.args.length in
    let i = c.partition_point.result in
    let parted = IsPartitionPoint-from_clause (λ l. ltb l n) coded_lengths i c.partition_point.ensures.partitioned (IsPartitionedBy-ltb (λ l. l) coded_lengths n rising) (λ a r q k. search (rules, tests)) in
    first_at coded_lengths n i c.partition_point.ensures.bound (λ k h. ltb-true _ n (parted.0 k 0 (omega arith) h)) (λ h. ltb-false _ n (parted.1 i 0 (omega arith) h))
