-- `strokes::run` meets its contract.
use mathlib.Core.Path.{◌≡◌}
use Prim.Native.Nat.{◌+◌, ◌-◌, ◌*◌}
use native.Mathlib.Omega.{arith}
use Rattle.generators.proofs.Runs.{clocks_less}
use Rattle.preoutput.specs.Functions.{grain128}
use Rattle.preoutput.specs.Running.{running_of, to_lfsr, to_nfsr}
use Rattle.strokes.proofs.run.Goals as goal

pub loop-preserved : goal.loop-preserved
loop-preserved c =
    let l = c.loop in
    let less : c.args.clocks - 32 * (l.counter + 1) ≡ (c.args.clocks - 32 * l.counter) - 32 = omega arith in
    rw less
    (clocks_less grain128 (c.args.clocks - 32 * l.counter) 32 (to_lfsr l.to_add) (to_nfsr l.to_add) (running_of l.now) (omega arith) c.at_once-now.ensures c.left-to_add.ensures.lfsr c.left-to_add.ensures.nfsr l.invariant)
