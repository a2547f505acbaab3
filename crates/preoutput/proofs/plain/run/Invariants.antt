-- `preoutput::plain::run` meets its contract.
use mathlib.Core.Path.{◌≡◌}
use Prim.Native.Nat.{◌-◌}
use Rattle.generators.specs.Running as running
use Rattle.preoutput.specs.Functions.{grain128}
use Rattle.preoutput.specs.Running.{running_of, to_lfsr, to_nfsr}
use Rattle.preoutput.proofs.plain.run.Given as goal

abbrev pub invariant-loop : goal.invariant-loop
invariant-loop l = running.clocks grain128 (l.fn.clocks - l.counter) (to_lfsr l.to_add) (to_nfsr l.to_add) (running_of l.now) ≡ running.clocks grain128 l.fn.clocks (to_lfsr l.fn.a) (to_nfsr l.fn.a) (running_of l.fn.r)
