-- Sealing, over any payload and any rows.
-- Assumes nothing.
use mathlib.Core.Path.{◌≡◌, ap, ◌∙◌, subst}
use mathlib.Core.List.{List}
use Prim.Native.Nat.{ℕ, ◌+◌, ◌≤◌}
use lib.ListN.{length}
use Rattle.refusals.specs.Refusals.{Check, passed}
use Rattle.refusals.specs.Outcome.{Outcome, settled, success}
use Rattle.refusals.specs.Demand1.{Accepts}
use Rattle.refusals.proofs.LastRow.{settled_passed}
use Rattle.tagged.specs.Demands.{Sealing}

-- Where the rows pass exactly with what is legal and room for the payload, sealing succeeds exactly then.
module _ (legal : List ℕ → Type 0) (payload : List ℕ → List ℕ) (size : ℕ) (message out : List ℕ) (j : Check) (o : Outcome)
    (settles : o ≡ settled j (payload message) out)
    (passes : legal message → length message + size ≤ length out → j ≡ passed)
    (fits : j ≡ passed → legal message × (length message + size ≤ length out)) where
  seals : legal message → length message + size ≤ length out → o ≡ success (payload message) out
  unfolding settled
  seals l room = settles ∙ ap (λ (k : Check). settled k (payload message) out) (passes l room)

  pub sealing : Sealing legal payload size message out o
  sealing = record {
    accepts = (λ a. fits (settled_passed j (payload message) out (subst Accepts settles a)), λ h. (_, ap (λ (u : Outcome). u.answer) (seals h.0 h.1)));
    seals = seals;
  }
