-- What the calls on the table answer: a length or a code, or refusal 10.
use Rattle.std.specs.Prelude.{cond, ℕ, ltb}
use Rattle.refusals.specs.declared.Refusal.TheVariants.{NotCodedLength}
use Rattle.refusals.specs.Refusals.{Answer}
use Rattle.std.specs.Prelude.{Ok, Err}
use Rattle.length_codes.specs.LengthCodes.{coded_length, length_code}

-- The length of a code, refused over 15.
abbrev pub length_of : (code : ℕ) → Answer
length_of code = cond (ltb 15 code) (Err NotCodedLength) (Ok (coded_length code))

-- The smallest code that holds n bytes, refused over 64.
abbrev pub code_of : (n : ℕ) → Answer
code_of n = cond (ltb 64 n) (Err NotCodedLength) (Ok (length_code n))
