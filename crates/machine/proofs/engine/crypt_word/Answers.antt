-- `machine::engine::crypt_word` meets its contract.
use mathlib.Core.Path.{ap, ◌∙◌}
use mathlib.Core.Bool.{true, false}
use native.Mathlib.Nat.{mod-lt}
use native.Mathlib.Omega.{arith}
use lib.Bits.{bit_xor}
use lib.Pow.{pow_pos}
use Rattle.machine.specs.Machine.{run}
use Rattle.machine.specs.Engine.{state_of}
use Rattle.machine.proofs.Bitwise.{bits-run, bits-keystream, bits-crypt, word_remainder, taken}
use Rattle.machine.proofs.engine.crypt_word.Goals as goal
use Rattle.machine.proofs.engine.crypt_word.Goals.{then-sealing, else-sealing}

pub returns : goal.returns
returns c =
    let a = c.args in
    let x = bit_xor a.x c.stream_word-s.result.keystream in
    record {
      small = mod-lt x (pow_pos 32);
      crypted = word_remainder 32 x ∙ bits-crypt 32 a.sealing a.e a.x c.stream_word-s.result.keystream (bits-keystream 32 (omega arith) c.stream_word-s.ensures.keystreams);
      engine =
          bits-run 32 a.e _ c.stream_word-s.result c.absorb_word.result (omega arith) c.stream_word-s.ensures c.absorb_word.ensures
          ∙ ap (run (state_of a.e))
          (elim c.if-sealing.branch [
            | then-sealing w ↦ taken 32 a.sealing true a.x _ _ w.if-sealing.true w.m-is
            | else-sealing w ↦ taken 32 a.sealing false a.x _ _ w.if-sealing.false w.m-is
          ]);
    }
