-- What reading promises, put together.
-- Assumes nothing.
use mathlib.Core.List.{List}
use Prim.Native.Nat.{ℕ}
use Rattle.bits.specs.Bytes.{Bytes}
use Rattle.machine.specs.declared.edition.Edition.{Edition}
use Rattle.frames.specs.Calls.{read}
use Rattle.frames.specs.Promises.{Reading}
use Rattle.frames.proofs.Demand2.{demand2}
use Rattle.frames.proofs.Demand3.{demand3}
use Rattle.frames.proofs.Damage.{filler_flips_lem, length_flips_lem}

pub reading : (e : Edition) (key nonce : List ℕ) (identifier code : ℕ) (field out : List ℕ) → Bytes field → Reading e key nonce identifier code field out (read e key nonce identifier code field out)
reading e key nonce identifier code field out b = record {
  demand2 = demand2 e key nonce identifier code field out b;
  demand3 = demand3 e key nonce identifier code field out;
  filler_flips = filler_flips_lem e key nonce identifier code field out;
  length_flips = length_flips_lem e key nonce identifier code field out b;
}
