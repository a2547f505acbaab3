-- The closed form of the accumulator, by one induction over the string.
-- Assumes nothing.
use mathlib.Core.Path.{◌≡◌, refl, sym, ap, ◌∙◌}
use mathlib.Core.Bool.{Bool, true, false, cond}
use mathlib.Core.List.{List, [], ◌∷◌}
use Prim.Native.Nat.{ℕ, suc, suc-le-suc, ◌<◌}
use native.Mathlib.Omega.{arith}
use native.Mathlib.Nat.{le_of_eq}
use lib.ListN.{length}
use Rattle.bits.specs.Strings.{◌⊞◌}
use Rattle.bits.proofs.Shift.{length_shift}
use Rattle.bits.proofs.Sum.{sum_assoc, sum_zeros, length-sum}
use Rattle.authenticator.specs.Authenticator.{Authenticator, Sized, add, move, absorb, absorb_all, register_after}
use Rattle.authenticator.specs.ClosedForm.{ClosedForm, Independent, registers_at}
use Rattle.authenticator.proofs.Linear.{registers_at-suc}

-- Whichever of two strings of w places is picked has w places.
cond-sized : (w : ℕ) (b : Bool) (s t : List Bool) → length s ≡ w → length t ≡ w → length (cond b s t) ≡ w
cond-sized w true s t hs ht = hs
cond-sized w false s t hs ht = ht

sum-sized : (w : ℕ) (s t : List Bool) → length s ≡ w → length t ≡ w → length (s ⊞ t) ≡ w
sum-sized w s t hs ht = length-sum s t (hs ∙ sym ht) ∙ hs

pub add-sized : (w : ℕ) (a : Authenticator) (m : Bool) → Sized w a → Sized w (add a m)
unfolding add
add-sized w a m sized = record {
  accumulator = search (cond-sized, sum-sized);
  register = sized.register;
}

move-sized : (w : ℕ) (a : Authenticator) (new : Bool) → 0 < w → Sized w a → Sized w (move a new)
unfolding move
move-sized w a new pos sized = record { accumulator = sized.accumulator; register = length_shift w a.register new pos sized.register }

pub absorb-sized : (w : ℕ) (a : Authenticator) (m new : Bool) → 0 < w → Sized w a → Sized w (absorb a m new)
unfolding absorb
absorb-sized w a m new pos sized = search (add-sized, move-sized)

-- Only the stream's bits at the string's positions count.
pub absorb_all_agrees : (a : Authenticator) (s : List Bool) (new new' : ℕ → Bool) → ((i : ℕ) → i < length s → new i ≡ new' i) → absorb_all a s new ≡ absorb_all a s new'
unfolding absorb_all
absorb_all_agrees a [] new new' e = refl
absorb_all_agrees a (m ∷ s) new new' e =
    ap (λ (b : Bool). absorb_all (absorb a m b) s (λ i. new (suc i))) (e 0 (omega arith))
    ∙ absorb_all_agrees (absorb a m (new' 0)) s (λ i. new (suc i)) (λ i. new' (suc i)) (λ i h. e (suc i) (suc-le-suc h))

pub closed_form : ClosedForm
unfolding add move absorb absorb_all register_after registers_at
closed_form w a [] new pos sized = sym (sum_zeros a.accumulator w (le_of_eq (sym sized.accumulator)))
closed_form w a (true ∷ s) new pos sized =
    closed_form w (absorb a true (new 0)) s (λ i. new (suc i)) pos (absorb-sized w a true (new 0) pos sized)
    ∙ sum_assoc a.accumulator a.register (registers_at w (λ j. register_after a.register new (suc j)) 0 s)
    ∙ ap (λ (r : List Bool). a.accumulator ⊞ (a.register ⊞ r)) (registers_at-suc w (register_after a.register new) 0 s)
closed_form w a (false ∷ s) new pos sized =
    closed_form w (absorb a false (new 0)) s (λ i. new (suc i)) pos (absorb-sized w a false (new 0) pos sized)
    ∙ ap (λ (r : List Bool). a.accumulator ⊞ r) (registers_at-suc w (register_after a.register new) 0 s)

pub independent : Independent
unfolding add move absorb absorb_all register_after
independent a [] new = refl
independent a (m ∷ s) new = independent (absorb a m (new 0)) s (λ i. new (suc i))
