-- `machine::engine::crypt_byte` meets its contract.
use mathlib.Core.Path.{ap, ◌∙◌}
use mathlib.Core.Bool.{true, false}
use Prim.Native.Nat.{◌%◌}
use native.Mathlib.Nat.{mod-lt}
use native.Mathlib.Omega.{arith}
use borrow.Author.Rules.{rules}
use lib.Bits.{xor_lt}
use lib.Pow.{pow_pos}
use Rattle.machine.specs.Machine.{run}
use Rattle.machine.specs.Engine.{state_of}
use Rattle.machine.proofs.Bitwise.{bits-run, bits-keystream, bits-crypt, word_remainder, taken}
use Rattle.machine.proofs.engine.crypt_byte.Goals as goal
use Rattle.machine.proofs.engine.crypt_byte.Goals.{then-sealing, else-sealing}

pub returns : goal.returns
returns c =
    let a = c.args in
    let k = word_remainder 8 c.stream_byte-s.result.keystream ∙ bits-keystream 8 (omega arith) c.stream_byte-s.ensures.keystreams in
    record {
      small = xor_lt 8 a.x (c.stream_byte-s.result.keystream % 256) (search rules) (mod-lt c.stream_byte-s.result.keystream (pow_pos 8));
      crypted = bits-crypt 8 a.sealing a.e a.x (c.stream_byte-s.result.keystream % 256) k;
      engine =
          bits-run 8 a.e _ c.stream_byte-s.result c.absorb_byte.result (omega arith) c.stream_byte-s.ensures (rw c.wide.ensures at c.absorb_byte.ensures)
          ∙ ap (run (state_of a.e))
          (elim c.if-sealing.branch [
            | then-sealing w ↦ taken 8 a.sealing true a.x _ _ w.if-sealing.true w.m-is
            | else-sealing w ↦ taken 8 a.sealing false a.x _ _ w.if-sealing.false w.m-is
          ]);
    }
