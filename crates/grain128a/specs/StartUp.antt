-- Start-up of Grain-128a, and its pre-outputs (source document 003, sections 2.1, 2.3 and 2.4).
use Rattle.std.specs.Prelude.{Bool, List, ℕ, ◌+◌}
use Rattle.bits.specs.Times.{times}
use Rattle.generators.specs.Generator.{Generator, preoutput, plain, fed_back}
use Rattle.generators.specs.Strokes.{listed}
use Rattle.preoutput.specs.Functions.{grain128}
use Rattle.machine.specs.declared.edition.Edition.TheVariants.{First}
use Rattle.machine.specs.Machine.{State}
use Rattle.startup.specs.StartUp.{loaded}
use Rattle.grain128a.specs.Bits.{bits}

-- Key and nonce are loaded as in Grain-128AEAD, and 256 clocks feed the pre-output back. The key is not used again.
unfoldable pub warmed : (key nonce : List ℕ) → Generator Bool
warmed key nonce = times 256 (fed_back grain128) (loaded (bits key) (bits nonce))

-- The pre-output of clock i from a generator on, y_i if that is the warmed one.
unfoldable pub preoutput_of : Generator Bool → (i : ℕ) → Bool
preoutput_of g i = preoutput grain128 (times i (plain grain128) g)

-- With authentication, the first 32 pre-outputs are the accumulator, the next 32 the register. Running starts at clock 64.
unfoldable pub filled : Generator Bool → State
filled g = record {
  edition = First;
  generator = times 64 (plain grain128) g;
  authenticator = record { accumulator = listed 32 (preoutput_of g); register = listed 32 (λ i. preoutput_of g (32 + i)) };
}

unfoldable pub initialised : (key nonce : List ℕ) → State
initialised key nonce = filled (warmed key nonce)
