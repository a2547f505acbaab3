-- `length_codes::coded_length` meets its contract.
use Rattle.std.proofs.Common.{rules}
use Rattle.length_codes.specs.LengthCodes.{coded_lengths, coded_length}
use Rattle.length_codes.proofs.coded_length.Goals as goal

pub returns : goal.returns
unfolding coded_length coded_lengths
returns c = search rules
