-- `strokes::stroke::stroke` meets its contract.
use mathlib.Core.Path.{◌≡◌}
use Prim.Native.Nat.{◌%◌}
use native.Mathlib.Nat.{mod-eq_of_lt}
use native.Mathlib.Omega.{arith}
use Rattle.strokes.proofs.StrokeWords.{stroke_words}
use Rattle.strokes.proofs.stroke.stroke.Goals as goal

pub returns : goal.returns
returns c =
    let within : c.args.n % 64 ≡ c.args.n = mod-eq_of_lt (omega (arith, c.requires)) in
    stroke_words c.args.g c.args.n c.args.to_lfsr c.args.to_nfsr c.lfsr_bits.result c.nfsr_bits.result _ c.requires
    record {
      lfsr0 = rw within at c.slide.ensures;
      lfsr1 = rw within at c.slide-2.ensures;
      nfsr0 = rw within at c.slide-3.ensures;
      nfsr1 = rw within at c.slide-4.ensures;
      lfsr_bits = c.lfsr_bits.ensures;
      nfsr_bits = c.nfsr_bits.ensures;
    }
