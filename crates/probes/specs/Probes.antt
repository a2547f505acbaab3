-- The last 64 pre-outputs of n plain clocks.
use Rattle.std.specs.Prelude.{Bool, false, List, ℕ}
use Rattle.generators.specs.Running.{clocks}
use Rattle.preoutput.specs.declared.Adding.{Adding}
use Rattle.preoutput.specs.Functions.{grain128}
use Rattle.preoutput.specs.Running.{running_of, to_lfsr, to_nfsr}

abbrev pub nothing : Adding
nothing = record { fed = false; lfsr0 = 0; lfsr1 = 0; nfsr0 = 0; nfsr1 = 0 }

abbrev pub last_outputs : (lfsr0 lfsr1 nfsr0 nfsr1 n : ℕ) → List Bool
last_outputs lfsr0 lfsr1 nfsr0 nfsr1 n =
    (clocks grain128 n (to_lfsr nothing) (to_nfsr nothing) (running_of record { registers = record { lfsr0 = lfsr0; lfsr1 = lfsr1; nfsr0 = nfsr0; nfsr1 = nfsr1 }; outputs = 0 })).outputs
