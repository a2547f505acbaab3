-- Clocks one after the other, each with a bit added to each new bit, and their pre-outputs (source document 000, sections 2.2 and 2.3).
use Rattle.std.specs.Prelude.{◌≡◌, Bool, true, ◌&&◌, ℕ, zero, suc, length}
use mathlib.Core.List.{List, [], foldl}
use Rattle.bits.specs.Bit.{◌⊻◌}
use Rattle.bits.specs.Strings.{shift, places}
use Rattle.bits.specs.Times.{times}
use Rattle.generators.specs.Algebra.{single}
use Rattle.generators.specs.Functions.{Functions}
use Rattle.generators.specs.Generator.{Generator, preoutput, clock, plain, fed_back, keyed, fed_back_with}

-- The generator, and a register that takes the pre-outputs.
pub record Running : Type 0 where
  pub generator : Generator Bool
  pub outputs : List Bool

-- What is added to a new bit at clock i, whose pre-output is y.
abbrev pub Added : Type 0
Added = (i : ℕ) → (y : Bool) → Bool

-- The bits of a string in turn, and zeros after its last.
abbrev pub given : List Bool → Added
given s i y = places s i

-- The pre-output if it is fed back, plus the bits of a string in turn.
abbrev pub adds : (fed_back : Bool) → List Bool → Added
adds fed_back s i y = (fed_back && y) ⊻ places s i

module _ (by : Functions single) where
  -- One clock.
  unfoldable pub next : (to_lfsr to_nfsr : Bool → Bool) → Running → Running
  next to_lfsr to_nfsr r = record {
    generator = clock by r.generator (to_lfsr (preoutput by r.generator)) (to_nfsr (preoutput by r.generator));
    outputs = shift r.outputs (preoutput by r.generator);
  }

  -- n clocks.
  unfoldable pub clocks : (n : ℕ) → (to_lfsr to_nfsr : Added) → Running → Running
  clocks zero to_lfsr to_nfsr r = r
  clocks (suc n) to_lfsr to_nfsr r = clocks n (λ i. to_lfsr (suc i)) (λ i. to_nfsr (suc i)) (next (to_lfsr 0) (to_nfsr 0) r)

-- The four ways of running are such clocks: plain running, the pre-output fed back, any number of key bits added to the new LFSR bits, and
-- the pre-output fed back with any number of key bits added to the new bits of both registers.
pub record Ways (by : Functions single) (r : Running) : Type 0 where
  pub plain : (n : ℕ) → (clocks by n (given []) (given []) r).generator ≡ times n (plain by) r.generator
  pub fed_back : (n : ℕ) → (clocks by n (adds true []) (adds true []) r).generator ≡ times n (fed_back by) r.generator
  pub keyed : (ks : List Bool) → (clocks by (length ks) (given ks) (given []) r).generator ≡ foldl (keyed by) r.generator ks
  pub fed_back_with : (ks ls : List Bool) → length ks ≡ length ls → (clocks by (length ks) (adds true ks) (adds true ls) r).generator ≡ fed_back_with by r.generator ks ls
