-- What a call answers and leaves in the lent output (document 01, "When the box says no").
use Rattle.std.specs.Prelude.{Bool, List, ◌++◌, ℕ, length, drop}
use Rattle.refusals.specs.declared.Refusal.{Refusal}
use Rattle.refusals.specs.Refusals.{Check}
use Rattle.std.specs.Prelude.{Ok, Err}
use Rattle.refusals.specs.Refusals.{Answer}
use Rattle.refusals.specs.Refusals.{check}

-- What a call answers, and the output afterwards.
pub record Outcome : Type 0 where
  pub answer : Answer
  pub output : List ℕ

abbrev pub outcome : Answer → (output : List ℕ) → Outcome
outcome answer output = record { answer = answer; output = output }

-- A refusal leaves the output as lent.
abbrev pub refused : Refusal → (out : List ℕ) → Outcome
refused r out = outcome (Err r) out

-- Success answers the count of bytes written. They stand at the front of the output, and what lies behind them is untouched.
abbrev pub success : (written out : List ℕ) → Outcome
success written out = outcome (Ok (length written)) (written ++ drop (length written) out)

-- What a call comes to when the rows have been tried.
unfoldable pub settled : Check → (written out : List ℕ) → Outcome
settled (Ok u) written out = success written out
settled (Err r) written out = refused r out

-- The first row that applies is the answer.
unfoldable pub judged : List Refusal → (applies : Refusal → Bool) → (written out : List ℕ) → Outcome
judged rs applies written out = settled (check rs applies) written out
