-- What reading promises in an edition beside its equation and demand 1.
use Rattle.std.specs.Prelude.{List, ℕ}
use Rattle.refusals.specs.Outcome.{Outcome}
use Rattle.machine.specs.declared.edition.Edition.{Edition}
use Rattle.frames.specs.Demand2.{Demand2}
use Rattle.frames.specs.Demand3.{Demand3}
use Rattle.frames.specs.Damage.{FillerFlips, LengthFlips}

pub record Reading (e : Edition) (key nonce : List ℕ) (identifier code : ℕ) (field out : List ℕ) (o : Outcome) : Type 0 where
  pub demand2 : Demand2 e key nonce identifier code field out o
  pub demand3 : Demand3 e key nonce identifier code field out o
  pub filler_flips : FillerFlips e key nonce identifier code field out o
  pub length_flips : LengthFlips e key nonce identifier code field out o
