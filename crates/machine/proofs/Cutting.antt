-- The machine with a cut authenticator.
-- Assumes nothing.
use mathlib.Core.Path.{◌≡◌, refl, sym, ap, ap₂, ◌∙◌}
use mathlib.Core.Bool.{Bool}
use mathlib.Core.List.{List, [], ◌∷◌, ◌++◌}
use Prim.Native.Nat.{ℕ, ◌+◌, ◌<◌}
use native.Mathlib.Omega.{arith}
use lib.ListN.{length, length-append}
use Rattle.bits.specs.Bytes.{word}
use Rattle.bits.proofs.Word.{length-word}
use Rattle.generators.specs.Generator.{preoutput, plain}
use Rattle.preoutput.specs.Functions.{grain128}
use Rattle.preoutput.specs.Words.{generator_of}
use Rattle.authenticator.specs.Words.{authenticator_of}
use Rattle.authenticator.proofs.Cutting.{cutting}
use Rattle.machine.specs.declared.engine.Engine.{Engine}
use Rattle.machine.specs.Engine.{state_of}
use Rattle.machine.specs.Machine.{State, step, run}
use Rattle.machine.specs.Laws.{Sized, cut, Cutting}
use Rattle.machine.proofs.Machine.{run-sized, crypt-sum}

module _ (k w : ℕ) (left : k < w) where
  cut_step : (st : State) (m : Bool) → Sized w st → cut k (step st m) ≡ step (cut k st) m
  unfolding cut step
  cut_step st m sized = λ i. record {
    edition = st.edition;
    generator = (step st m).generator;
    authenticator = (cutting k w left st.authenticator sized.authenticator).absorb m (preoutput grain128 (plain grain128 st.generator)) i;
  }

  cut-run : (st : State) (s : List Bool) → Sized w st → cut k (run st s) ≡ run (cut k st) s
  unfolding run
  cut-run st [] sized = refl
  cut-run st (m ∷ s) sized = cut-run (step st m) s (run-sized w st (m ∷ []) (omega arith) sized) ∙ ap (λ (a : State). run a s) (cut_step st m sized)

  pub machine_cutting : (st : State) (s : List Bool) → Sized w st → Cutting k w st s
  unfolding cut
  machine_cutting st s sized = record {
    sized = record { generator = sized.generator; authenticator = (cutting k w left st.authenticator sized.authenticator).sized };
    run = cut-run st s sized;
    crypt = λ sealing. crypt-sum sealing (cut k st) s ∙ sym (crypt-sum sealing st s);
  }

-- The machine in words, of which all but the first k places are meant.
module _ (e : Engine) where
  engine-sized : Sized 64 (state_of e)
  unfolding state_of generator_of authenticator_of
  engine-sized = record {
    generator = record { lfsr = two_words e.registers.lfsr0 e.registers.lfsr1; nfsr = two_words e.registers.nfsr0 e.registers.nfsr1 };
    authenticator = record { accumulator = length-word 64 e.tagger.accumulator; register = length-word 64 e.tagger.register };
  }
    where
      two_words : (a b : ℕ) → length (word 64 a ++ word 64 b) ≡ 128
      two_words a b = length-append (word 64 a) (word 64 b) ∙ ap₂ ◌+◌ (length-word 64 a) (length-word 64 b)

  pub engine_cutting : (k : ℕ) → k < 64 → (s : List Bool) → Cutting k 64 (state_of e) s
  engine_cutting k left s = machine_cutting k 64 left (state_of e) s engine-sized
