-- `startup::editions::filler` meets its contract.
use mathlib.Core.Path.{refl}
use Rattle.bits.specs.Bytes.{word}
use Rattle.startup.specs.Editions.{filling}
use Rattle.startup.proofs.editions.filler.Goals as goal

pub returns-in-First : goal.returns-in-First
unfolding filling
returns-in-First c = rw c.in-First.is refl

pub returns-in-Second : goal.returns-in-Second
unfolding word filling
returns-in-Second c = rw c.in-Second.is refl
