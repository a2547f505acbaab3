-- Cutting: the first k places of accumulator and register are left out. What is left is an authenticator of the width that is left.
use Rattle.std.specs.Prelude.{◌≡◌, Bool, List, ℕ, ◌+◌, ◌-◌, drop}
use Rattle.bits.specs.Bytes.{word}
use Rattle.authenticator.specs.declared.Tagger.{Tagger}
use Rattle.authenticator.specs.Authenticator.{Authenticator, Sized, add, move, absorb, absorb_all}
use Rattle.authenticator.specs.ClosedForm.{registers_at}
use Rattle.authenticator.specs.Words.{authenticator_of}

unfoldable pub cut : ℕ → Authenticator → Authenticator
cut k a = record { accumulator = drop k a.accumulator; register = drop k a.register }

-- To cut k of w places commutes with adding, moving and absorbing, one bit or a string of them.
pub record Cutting (k w : ℕ) (a : Authenticator) : Type 0 where
  pub sized : Sized (w - k) (cut k a)
  pub add : (m : Bool) → cut k (add a m) ≡ add (cut k a) m
  pub move : (new : Bool) → cut k (move a new) ≡ move (cut k a) new
  pub absorb : (m new : Bool) → cut k (absorb a m new) ≡ absorb (cut k a) m new
  pub absorb_all : (s : List Bool) (new : ℕ → Bool) → cut k (absorb_all a s new) ≡ absorb_all (cut k a) s new

-- A sum of registers that is cut is the sum of the cut registers.
abbrev pub CutSums : Type 0
CutSums = (k w : ℕ) (R : ℕ → List Bool) (i : ℕ) (s : List Bool) → drop k (registers_at w R i s) ≡ registers_at (w - k) (λ j. drop k (R j)) i s

-- Of words of 64 bits the lowest are left.
abbrev pub CutWords : Type 0
CutWords = (k w : ℕ) (t : Tagger) → k + w ≡ 64 → cut k (authenticator_of t) ≡ record { accumulator = word w t.accumulator; register = word w t.register }
