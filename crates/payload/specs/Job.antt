-- What the machine does for an AD and a message of given lengths: bits of the authenticated string, and clocks.
use Rattle.std.specs.Prelude.{ℕ, ◌+◌, ◌*◌, length}
use Rattle.machine.specs.declared.edition.Edition.{Edition}
use Rattle.startup.specs.Editions.{running_from}
use Rattle.lengths.specs.CodedLength.{coded_length}

-- Eight bits for each byte of the coded length, of the AD and of the message, and the final 1.
unfoldable pub string_bits : (ad_length message_length : ℕ) → ℕ
string_bits a m = 8 * (length (coded_length a) + a + m) + 1

-- The clocks of start-up, and two for each bit of the string.
unfoldable pub job_clocks : Edition → (ad_length message_length : ℕ) → ℕ
job_clocks e a m = running_from e + 2 * string_bits a m
