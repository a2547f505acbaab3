-- The machine's keystream and register bits by their clock numbers, from any starting state.
-- Assumes nothing.
use mathlib.Core.Path.{◌≡◌, refl, sym, ap, ◌∙◌}
use mathlib.Core.Bool.{Bool, false}
use mathlib.Core.List.{List, [], ◌∷◌}
use Prim.Native.Nat.{ℕ, suc, ◌+◌, ◌*◌}
use native.Mathlib.Omega.{arith}
use native.Mathlib.Numerals.{add-one}
use lib.ListN.{length, get_or}
use Rattle.bits.specs.Bit.{◌⊻◌}
use Rattle.bits.specs.Strings.{shift}
use Rattle.bits.specs.Times.{times}
use Rattle.bits.proofs.Sum.{get_or-sum}
use Rattle.bits.proofs.Times.{times-last, times-add}
use Rattle.generators.specs.Generator.{Generator, preoutput, plain, every}
use Rattle.generators.proofs.Spaced.{every-at}
use Rattle.preoutput.specs.Functions.{grain128}
use Rattle.authenticator.specs.Authenticator.{absorb, add, move}
use Rattle.machine.specs.Machine.{State, keystream_bit, step, run}
use Rattle.machine.specs.Laws.{preoutput_at, Clocks, Keystream}
use Rattle.machine.proofs.Machine.{run-append, crypt-sum}

-- k plain clocks.
abbrev clocked : ℕ → Generator Bool → Generator Bool
clocked k g = times k (plain grain128) g

two_more : (n : ℕ) → 2 * suc n ≡ suc (suc (2 * n))
two_more n = omega arith

pub run-clocked : (st : State) (s : List Bool) → (run st s).generator ≡ clocked (2 * length s) st.generator
unfolding run step times
run-clocked st [] = refl
run-clocked st (m ∷ s) = run-clocked (step st m) s ∙ ap (λ (k : ℕ). clocked k st.generator) (sym (two_more (length s)))

pub clocks : (st : State) (s : List Bool) (m : Bool) → Clocks st s m
unfolding keystream_bit run step absorb add move preoutput_at
clocks st s m = record {
  keystream = ap (preoutput grain128) (run-clocked st s);
  register =
      ap (λ (after : State). after.authenticator.register) (run-append st s (m ∷ []))
      ∙ ap (shift (run st s).authenticator.register)
      (ap (λ (g : Generator Bool). preoutput grain128 (plain grain128 g)) (run-clocked st s)
      ∙ ap (preoutput grain128) (times-last (plain grain128) (2 * length s) st.generator)
      ∙ ap (λ (k : ℕ). preoutput grain128 (clocked k st.generator)) (sym (add-one (2 * length s))));
}

pub keystream : Keystream
unfolding preoutput_at
keystream sealing st before s j h =
    ap (λ (r : List Bool). get_or r j false) (crypt-sum sealing (run st before) s)
    ∙ get_or-sum s (every grain128 2 (length s) (run st before).generator) j
    ∙ ap (λ (b : Bool). get_or s j false ⊻ b)
    (every-at grain128 2 (length s) j (run st before).generator h
    ∙ ap (λ (g : Generator Bool). preoutput grain128 (clocked (2 * j) g)) (run-clocked st before)
    ∙ ap (preoutput grain128) (times-add (plain grain128) (2 * length before) (2 * j) st.generator)
    ∙ ap (λ (k : ℕ). preoutput grain128 (clocked k st.generator)) (together (length before)))
  where
    together : (i : ℕ) → 2 * i + 2 * j ≡ 2 * (i + j)
    together i = omega arith
