-- `preoutput::plain::run` meets its contract.
use mathlib.Core.Path.{◌≡◌, ◌∙◌}
use Prim.Native.Nat.{◌+◌, ◌-◌}
use native.Mathlib.Omega.{arith}
use Rattle.generators.proofs.Runs.{clocks_less, clocks_one, clocks-none}
use Rattle.preoutput.specs.Functions.{grain128}
use Rattle.preoutput.specs.Running.{running_of, to_lfsr, to_nfsr}
use Rattle.preoutput.proofs.plain.run.Goals as goal

pub loop-preserved : goal.loop-preserved
loop-preserved c =
    let l = c.loop in
    let less : c.args.clocks - (l.counter + 1) ≡ (c.args.clocks - l.counter) - 1 = omega arith in
    rw less
    (clocks_less grain128 (c.args.clocks - l.counter) 1 (to_lfsr l.to_add) (to_nfsr l.to_add) (running_of l.now) (omega arith)
    (c.next-now.ensures ∙ clocks_one grain128 (to_lfsr l.to_add) (to_nfsr l.to_add) (running_of l.now)) c.left-to_add.ensures.lfsr c.left-to_add.ensures.nfsr l.invariant)

pub returns : goal.returns
returns c =
    let l = c.loop in
    clocks-none grain128 (c.args.clocks - l.counter) (to_lfsr l.to_add) (to_nfsr l.to_add) (running_of l.now) (omega arith) l.invariant
