-- `strings::crypt_rest` meets its contract.
use Prim.Native.Nat.{◌+◌}
use lib.ListN.{take}
use Rattle.strings.specs.Strings.{Continues}
use Rattle.strings.proofs.crypt_rest.Given as goal

abbrev pub invariant-loop-i : goal.invariant-loop-i
invariant-loop-i l = Continues l.e.edition l.writes l.sealing l.initial.now l.now (take l.from l.s) (take (l.from + l.i) l.s) l.initial.out l.out
