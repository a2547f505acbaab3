-- Each refusal of a call on a stream is given exactly when it applies, in its order, and leaves state and output as lent.
use Rattle.std.specs.Prelude.{◌≡◌, ◌↔◌, not, List, ℕ, length}
use Rattle.refusals.specs.declared.Refusal.{Refusal}
use Rattle.std.specs.Prelude.{Ok, Err}
use Rattle.refusals.specs.Refusals.{among}
use Rattle.refusals.specs.Demand1.{First, Clear}
use Rattle.limits.specs.Limits.{message_limit}
use Rattle.stream_state.specs.Layout.{read, sound}
use Rattle.streams.specs.Calls.{Call, Step, order, rows, next, produced, lent, accepted}

abbrev pub Accepts : Step → Type 0
Accepts t = (n : ℕ) × (t.answer ≡ Ok n)

-- Over a call, any state of any length, and what the call comes to.
pub record Demand1 (c : Call) (state : List ℕ) (t : Step) : Type 0 where
  pub refuses : (r : Refusal) → (t.answer ≡ Err r) ↔ First (order c) (among (rows c (length state) (not (sound message_limit state)) (read state))) r
  pub accepts : Accepts t ↔ Clear (order c) (among (rows c (length state) (not (sound message_limit state)) (read state)))
  pub untouched : (r : Refusal) → t.answer ≡ Err r → (t.state ≡ state) × (t.output ≡ lent c)
  pub goes : Accepts t → t ≡ accepted (next c (read state)) (produced c (read state)) (lent c)
