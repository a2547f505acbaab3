-- An answer as a signed number (document 01, "When the box says no"): a success is the count, refusal n is minus n.
use Rattle.std.specs.Prelude.{◌≡◌, cond, List, ℕ, ◌-◌, ◌^◌, ltb, ℤ, pos, neg_ℤ}
use Rattle.refusals.specs.Refusals.{Answer}
use Rattle.std.specs.Prelude.{Ok, Err}
use Rattle.refusals.specs.Refusals.{number}
use Rattle.refusals.specs.Outcome.{Outcome}

abbrev pub signed_of : Answer → ℤ
signed_of (Ok n) = pos n
signed_of (Err r) = neg_ℤ (pos (number r))

-- The number that a call answers, and the output afterwards.
pub record Returns (o : Outcome) (r : ℤ) (output : List ℕ) : Type 0 where
  pub number : r ≡ signed_of o.answer
  pub written : output ≡ o.output

-- A count of 2 ^ 63 or more fits no signed number of 64 bits: the largest of these stands in for it.
abbrev pub capped : Answer → Answer
capped (Ok n) = Ok (cond (ltb n (2 ^ 63)) n (2 ^ 63 - 1))
capped (Err r) = Err r
