-- One bit of the string, on words.
-- Assumes nothing.
use mathlib.Core.Path.{◌≡◌, sym, ap, ap₂, ◌∙◌}
use mathlib.Core.Bool.{Bool, cond}
use Prim.Native.Nat.{ℕ, zero, suc, ◌-◌, ◌<◌, ◌≤◌}
use native.Mathlib.Nat.{not-suc-le-zero}
use native.Mathlib.Numerals.{sub-one}
use Rattle.bits.specs.Bytes.{word, lowest, bit}
use Rattle.bits.specs.Strings.{◌⊞◌, shift, places}
use Rattle.authenticator.specs.declared.Tagger.{Tagger}
use Rattle.authenticator.specs.Authenticator.{Authenticator, absorb, add, move, absorb_all}
use Rattle.authenticator.specs.Words.{authenticator_of}

pub absorb-words : (t : Tagger) (m new a v : ℕ) (b : Bool) → lowest m ≡ b
    → word 64 a ≡ cond b (word 64 t.accumulator ⊞ word 64 t.register) (word 64 t.accumulator)
    → word 64 v ≡ shift (word 64 t.register) (lowest new)
    → authenticator_of record { accumulator = a; register = v } ≡ absorb (authenticator_of t) (lowest m) (lowest new)
unfolding authenticator_of absorb add move
absorb-words t m new a v b e added moved = λ i. record {
  accumulator = (added ∙ ap (λ (d : Bool). cond d (word 64 t.accumulator ⊞ word 64 t.register) (word 64 t.accumulator)) (sym e)) i;
  register = moved i;
}

-- A loop over the lowest bits of two words, from the highest on: one turn of it, and its end.
module _ (m new : ℕ) (a : Authenticator) {target : Authenticator} where
  pub absorb_less : (left : ℕ) {b : Authenticator} → 0 < left → b ≡ absorb a (bit (left - 1) m) (bit (left - 1) new)
      → absorb_all a (word left m) (places (word left new)) ≡ target → absorb_all b (word (left - 1) m) (places (word (left - 1) new)) ≡ target
  unfolding word absorb_all
  absorb_less zero pos e whole = absurd (not-suc-le-zero pos)
  absorb_less (suc n) pos e whole =
      ap₂ (λ (k : ℕ) (d : Authenticator). absorb_all d (word k m) (places (word k new))) (sub-one (suc n)) e
      ∙ ap (λ (k : ℕ). absorb_all (absorb a (bit k m) (bit k new)) (word n m) (places (word n new))) (sub-one (suc n)) ∙ whole

  pub absorb-none : (left : ℕ) → left ≤ 0 → absorb_all a (word left m) (places (word left new)) ≡ target → a ≡ target
  unfolding word absorb_all
  absorb-none zero h whole = whole
  absorb-none (suc n) h whole = absurd (not-suc-le-zero h)
