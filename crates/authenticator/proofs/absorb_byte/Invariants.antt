-- `authenticator::absorb_byte` meets its contract: what the bits that are left do comes to what all eight do.
use mathlib.Core.Path.{◌≡◌}
use Rattle.bits.specs.Bytes.{word}
use Rattle.bits.specs.Strings.{places}
use Rattle.authenticator.specs.Authenticator.{absorb_all}
use Rattle.authenticator.specs.Words.{authenticator_of}
use Rattle.authenticator.proofs.absorb_byte.Given as goal

abbrev pub invariant-loop-left : goal.invariant-loop-left
invariant-loop-left l = absorb_all (authenticator_of l.now) (word l.left l.m) (places (word l.left l.new)) ≡ absorb_all (authenticator_of l.initial.now) (word 8 l.m) (places (word 8 l.new))
