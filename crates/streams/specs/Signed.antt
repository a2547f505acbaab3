-- A call on a stream as C makes it: the answer is a signed number, the clocks so far or minus the refusal.
use Rattle.std.specs.Prelude.{◌≡◌, List, ℕ, ℤ}
use Rattle.refusals.specs.Signed.{signed_of}
use Rattle.streams.specs.Calls.{Step}

-- The number that a call answers, and state and output afterwards.
pub record Returns (t : Step) (r : ℤ) (left output : List ℕ) : Type 0 where
  pub number : r ≡ signed_of t.answer
  pub state : left ≡ t.state
  pub written : output ≡ t.output
