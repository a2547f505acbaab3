-- `preoutput::added::left` meets its contract.
use Prim.Native.Nat.{◌%◌}
use native.Mathlib.Nat.{mod-lt}
use lib.Pow.{pow_pos}
use Rattle.preoutput.specs.Running.{to_lfsr, to_nfsr}
use Rattle.preoutput.proofs.Runs.{left_adding}
use Rattle.preoutput.proofs.added.left.Goals as goal

pub returns : goal.returns
unfolding to_lfsr to_nfsr
returns c =
    let a = c.args.a in
    record {
      lfsr = left_adding a.fed (c.args.n % 64) a.lfsr0 a.lfsr1 _ _ (mod-lt c.args.n (pow_pos 6)) c.slide.ensures c.slide-2.ensures;
      nfsr = left_adding a.fed (c.args.n % 64) a.nfsr0 a.nfsr1 _ _ (mod-lt c.args.n (pow_pos 6)) c.slide-3.ensures c.slide-4.ensures;
    }
