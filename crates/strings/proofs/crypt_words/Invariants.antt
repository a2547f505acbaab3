-- `strings::crypt_words` meets its contract.
use Prim.Native.Nat.{◌*◌}
use lib.ListN.{take}
use Rattle.std.specs.Iterator.Adapters.{enumerate_count}
use Rattle.machine.specs.Engine.{state_of}
use Rattle.strings.specs.Strings.{CryptsAll}
use Rattle.strings.proofs.Words.{Fours}
use Rattle.strings.proofs.crypt_words.Given as goal

abbrev pub invariant-loop-i : goal.invariant-loop-i
invariant-loop-i l = record {
  left : Fours l.s l.i-iterator;
  crypts : CryptsAll l.e.edition l.writes l.sealing (state_of l.initial.now) (take (enumerate_count l.i-iterator * 4) l.s) l.initial.out l.out l.now;
}
