-- What an exported call on a stream returns, from what the call under it answers.
-- Assumes nothing.
use mathlib.Core.Path.{◌≡◌, ap, ◌∙◌}
use mathlib.Core.List.{List}
use Prim.Native.Nat.{ℕ}
use lib.IntN.{ℤ}
use Rattle.refusals.specs.Refusals.{Answer}
use Rattle.refusals.specs.Signed.{signed_of, capped}
use Rattle.streams.specs.Calls.{Step, step}
use Rattle.streams.specs.Signed.{Returns}

pub returned : (a : Answer) (state output : List ℕ) (t : Step) (r : ℤ) → r ≡ signed_of (capped a) → capped a ≡ a → step a state output ≡ t → Returns t r state output
returned a state output t r n fits e = record {
  number = n ∙ ap signed_of fits ∙ ap (λ (u : Step). signed_of u.answer) e;
  state = ap (λ (u : Step). u.state) e;
  written = ap (λ (u : Step). u.output) e;
}
