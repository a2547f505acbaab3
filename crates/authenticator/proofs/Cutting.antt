-- Cutting commutes with what an authenticator does.
-- Assumes nothing.
use mathlib.Core.Path.{◌≡◌, refl, sym, ap, ◌∙◌}
use mathlib.Core.Bool.{Bool, true, false}
use mathlib.Core.List.{List, [], ◌∷◌}
use Prim.Native.Nat.{ℕ, suc, ◌-◌, ◌<◌}
use native.Mathlib.Omega.{arith}
use lib.ListN.{drop, length-drop}
use Rattle.bits.specs.Bytes.{word}
use Rattle.bits.proofs.Shift.{drop-shift}
use Rattle.bits.proofs.Sum.{drop-sum, drop-zeros}
use Rattle.bits.proofs.Word.{word-drop}
use Rattle.authenticator.specs.Authenticator.{Authenticator, Sized, add, move, absorb, absorb_all}
use Rattle.authenticator.specs.Words.{authenticator_of}
use Rattle.authenticator.specs.Cutting.{cut, Cutting, CutSums, CutWords}
use Rattle.authenticator.proofs.ClosedForm.{add-sized, absorb-sized}
use Rattle.authenticator.proofs.Linear.{registers_at-map}

cut-add : (k : ℕ) (a : Authenticator) (m : Bool) → cut k (add a m) ≡ add (cut k a) m
unfolding cut add
cut-add k a true = λ i. record { accumulator = drop-sum k a.accumulator a.register i; register = drop k a.register }
cut-add k a false = refl

module _ (k w : ℕ) (left : k < w) where
  cut-move : (a : Authenticator) (new : Bool) → Sized w a → cut k (move a new) ≡ move (cut k a) new
  unfolding cut move
  cut-move a new sized = λ i. record { accumulator = drop k a.accumulator; register = drop-shift k a.register new (omega (arith, sized.register)) i }

  cut-absorb : (a : Authenticator) (m new : Bool) → Sized w a → cut k (absorb a m new) ≡ absorb (cut k a) m new
  unfolding absorb add
  cut-absorb a m new sized = cut-move (add a m) new (add-sized w a m sized) ∙ ap (λ (b : Authenticator). move b new) (cut-add k a m)

  cut-absorb_all : (a : Authenticator) (s : List Bool) (new : ℕ → Bool) → Sized w a → cut k (absorb_all a s new) ≡ absorb_all (cut k a) s new
  unfolding absorb_all
  cut-absorb_all a [] new sized = refl
  cut-absorb_all a (m ∷ s) new sized =
      cut-absorb_all (absorb a m (new 0)) s (λ i. new (suc i)) (absorb-sized w a m (new 0) (omega arith) sized)
      ∙ ap (λ (b : Authenticator). absorb_all b s (λ i. new (suc i))) (cut-absorb a m (new 0) sized)

  cut-sized : (a : Authenticator) → Sized w a → Sized (w - k) (cut k a)
  unfolding cut
  cut-sized a sized = record {
    accumulator = length-drop k a.accumulator ∙ ap (λ (n : ℕ). n - k) sized.accumulator;
    register = length-drop k a.register ∙ ap (λ (n : ℕ). n - k) sized.register;
  }

  pub cutting : (a : Authenticator) → Sized w a → Cutting k w a
  cutting a sized = record {
    sized = cut-sized a sized;
    add = cut-add k a;
    move = λ new. cut-move a new sized;
    absorb = λ m new. cut-absorb a m new sized;
    absorb_all = λ s new. cut-absorb_all a s new sized;
  }

pub cut_sums : CutSums
cut_sums k w = registers_at-map w (w - k) (drop k) (drop-zeros k w) (drop-sum k)

pub cut-words : CutWords
unfolding cut authenticator_of
cut-words k w t e = λ i. record { accumulator = lowest_left t.accumulator i; register = lowest_left t.register i }
  where
    lowest_left : (x : ℕ) → drop k (word 64 x) ≡ word w x
    lowest_left x = ap (λ (n : ℕ). drop k (word n x)) (sym e) ∙ word-drop k w x
