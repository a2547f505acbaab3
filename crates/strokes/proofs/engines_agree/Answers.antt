-- `strokes::engines_agree` meets its contract.
use mathlib.Core.Path.{sym, ◌∙◌}
use native.Mathlib.Omega.{arith}
use Rattle.strokes.proofs.Agreement.{agree}
use Rattle.strokes.proofs.engines_agree.Goals as goal

pub returns : goal.returns
returns c =
    c.same.ensures.1
    (agree c.run.result c.run-2.result
    record { lfsr0 = omega (arith, c.run.type_inv); lfsr1 = omega (arith, c.run.type_inv); nfsr0 = omega (arith, c.run.type_inv); nfsr1 = omega (arith, c.run.type_inv); outputs = omega (arith, c.run.type_inv) }
    record { lfsr0 = omega (arith, c.run-2.type_inv); lfsr1 = omega (arith, c.run-2.type_inv); nfsr0 = omega (arith, c.run-2.type_inv); nfsr1 = omega (arith, c.run-2.type_inv); outputs = omega (arith, c.run-2.type_inv) }
    (c.run.ensures ∙ sym c.run-2.ensures))
