-- `bits::spell` meets its contract: from place i on, the string has the lowest bytes of the word.
use lib.ListN.{length}
use Rattle.bits.proofs.Spelling.{Spelling}
use Rattle.bits.proofs.spell.Given as goal

abbrev pub invariant-loop-i : goal.invariant-loop-i
invariant-loop-i l = Spelling l.w (length l.initial.out) l.out l.rest l.i
