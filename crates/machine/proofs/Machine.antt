-- Laws of the running machine: what it does to a string, as the string's bits, the keystream and the authenticator's own law.
-- Assumes nothing.
use mathlib.Core.Path.{◌≡◌, refl, sym, ap, ◌∙◌}
use mathlib.Core.Bool.{Bool, cond}
use mathlib.Core.List.{List, [], ◌∷◌, ◌++◌, foldl-append}
use Prim.Native.Nat.{ℕ, zero, suc, ◌<◌}
use native.Mathlib.Nat.{suc_inj, le_of_suc-le-suc, not-suc-le-zero}
use native.Mathlib.Omega.{arith}
use lib.ListN.{length}
use Rattle.bits.specs.Bit.{◌⊻◌}
use Rattle.bits.specs.Strings.{◌⊞◌, places}
use Rattle.bits.specs.Times.{times}
use Rattle.bits.proofs.Sum.{length-sum}
use Rattle.generators.specs.Generator.{Generator, preoutput, plain, every}
use Rattle.generators.proofs.Sizes.{clock-sized}
use Rattle.generators.proofs.Spaced.{length-every}
use Rattle.preoutput.specs.Functions.{grain128}
use Rattle.authenticator.specs.Authenticator.{Authenticator, absorb_all, register_after}
use Rattle.authenticator.proofs.ClosedForm.{independent, absorb-sized}
use Rattle.machine.specs.Machine.{State, keystream_bit, step, run, crypt}
use Rattle.machine.specs.Laws.{Sized, Lengths, Independent}

pub run-append : (st : State) (s t : List Bool) → run st (s ++ t) ≡ run (run st s) t
unfolding run
run-append st s t = foldl-append step st s t

-- No bit of the string alters the edition.
pub run-edition : (st : State) (s : List Bool) → (run st s).edition ≡ st.edition
unfolding run step
run-edition st [] = refl
run-edition st (m ∷ s) = run-edition (step st m) s

-- The generator sees no bit of the string.
pub run-generator : (st st' : State) (s t : List Bool) → st.generator ≡ st'.generator → length s ≡ length t → (run st s).generator ≡ (run st' t).generator
unfolding run step
run-generator st st' [] [] g e = g
run-generator st st' [] (b ∷ t) g e = absurd (omega arith)
run-generator st st' (a ∷ s) [] g e = absurd (omega arith)
run-generator st st' (a ∷ s) (b ∷ t) g e = run-generator (step st a) (step st' b) s t (ap (λ (h : Generator Bool). plain grain128 (plain grain128 h)) g) (suc_inj e)

-- The bits that the register takes: the pre-output of every second clock.
pub register_bits : Generator Bool → ℕ → Bool
register_bits g zero = preoutput grain128 (plain grain128 g)
register_bits g (suc i) = register_bits (plain grain128 (plain grain128 g)) i

pub run-authenticator : (st : State) (s : List Bool) → (run st s).authenticator ≡ absorb_all st.authenticator s (register_bits st.generator)
unfolding run step absorb_all register_bits
run-authenticator st [] = refl
run-authenticator st (m ∷ s) = run-authenticator (step st m) s

pub run-register : (st : State) (s : List Bool) → (run st s).authenticator.register ≡ register_after st.authenticator.register (register_bits st.generator) (length s)
run-register st s = ap (λ (a : Authenticator). a.register) (run-authenticator st s) ∙ independent st.authenticator s (register_bits st.generator)

pub independence : (st : State) (s t : List Bool) → length s ≡ length t → Independent st s t
unfolding keystream_bit
independence st s t e = record {
  generator = run-generator st st s t refl e;
  register = run-register st s ∙ ap (register_after st.authenticator.register (register_bits st.generator)) e ∙ sym (run-register st t);
  keystream = ap (preoutput grain128) (run-generator st st s t refl e);
}

pub run-sized : (w : ℕ) (st : State) (s : List Bool) → 0 < w → Sized w st → Sized w (run st s)
unfolding run step
run-sized w st [] pos sized = sized
run-sized w st (m ∷ s) pos sized = run-sized w (step st m) s pos record {
  generator = clock-sized grain128 128 _ _ _ (omega arith) (clock-sized grain128 128 st.generator _ _ (omega arith) sized.generator);
  authenticator = absorb-sized w st.authenticator m _ pos sized.authenticator;
}

pub register_bits_places : (n i : ℕ) (g : Generator Bool) → i < n → register_bits g i ≡ places (every grain128 2 n (plain grain128 g)) i
unfolding register_bits every times
register_bits_places zero i g h = absurd (not-suc-le-zero h)
register_bits_places (suc n) zero g h = refl
register_bits_places (suc n) (suc i) g h = register_bits_places n i (plain grain128 (plain grain128 g)) (le_of_suc-le-suc h)

-- To encipher and to decipher are both to add the keystream.
pub crypt-sum : (sealing : Bool) (st : State) (s : List Bool) → crypt sealing st s ≡ s ⊞ every grain128 2 (length s) st.generator
unfolding crypt keystream_bit step every times ◌⊞◌
crypt-sum sealing st [] = refl
crypt-sum sealing st (x ∷ s) = ap (λ (r : List Bool). (x ⊻ preoutput grain128 st.generator) ∷ r) (crypt-sum sealing (step st (cond sealing x (x ⊻ preoutput grain128 st.generator))) s)

pub length-crypt : (sealing : Bool) (st : State) (s : List Bool) → length (crypt sealing st s) ≡ length s
length-crypt sealing st s = ap length (crypt-sum sealing st s) ∙ length-sum s _ (sym (length-every grain128 2 (length s) st.generator))

pub lengths : (w : ℕ) (st : State) (s : List Bool) → 0 < w → Sized w st → Lengths w st s
lengths w st s pos sized = record { state = run-sized w st s pos sized; crypted = λ sealing. length-crypt sealing st s }
