-- The lengths of legal ADs, and their coding.
-- Assumes nothing.
use native.Mathlib.Nat.{lt_of_le_of_lt}
use lib.Dec.{lit<}
use Rattle.lengths.proofs.CodedLength.{distinguished}
use Rattle.grain128aead.specs.Sizes.{ad_limit, TwoBytes, LegalLengths}

pub two_bytes : TwoBytes
unfolding ad_limit
two_bytes = lit< tt

pub legal-lengths : LegalLengths
legal-lengths n h = distinguished n (lt_of_le_of_lt h two_bytes)
