-- The machine over the coded length and the AD, piece by piece: its edition stays that of its start-up.
-- Assumes nothing.
use mathlib.Core.Path.{◌≡◌, sym, ap, ap₂, ◌∙◌}
use mathlib.Core.Bool.{Bool}
use mathlib.Core.List.{List, [], ◌∷◌}
use Prim.Native.Nat.{ℕ}
use lib.ListN.{length}
use Rattle.machine.specs.declared.edition.Edition.{Edition}
use Rattle.machine.specs.declared.engine.Engine.{Engine}
use Rattle.machine.specs.Machine.{State, run}
use Rattle.machine.specs.Engine.{state_of}
use Rattle.machine.proofs.Machine.{run-append, run-edition}
use Rattle.startup.specs.Editions.{bits_in, started, initialised}
use Rattle.strings.proofs.OverBytes.{run_two, run_three}
use Rattle.lengths.specs.CodedLength.{coded_length}
use Rattle.payload.specs.AuthenticatedString.{header}
use Rattle.payload.specs.Payload.{begun}

-- What an engine carries.
pub carried : (a : Engine) (st : State) → state_of a ≡ st → a.edition ≡ st.edition
unfolding state_of
carried a st e = ap (λ (s : State). s.edition) e

kept : (a b : Engine) (s : List Bool) → state_of b ≡ run (state_of a) s → b.edition ≡ a.edition
unfolding state_of
kept a b s e = carried b (run (state_of a) s) e ∙ run-edition (state_of a) s

pub begun-edition : (ed : Edition) (key nonce ad : List ℕ) (a : Engine) → state_of a ≡ begun ed key nonce ad → a.edition ≡ ed
unfolding begun initialised started
begun-edition ed key nonce ad a e = carried a (begun ed key nonce ad) e ∙ run-edition (initialised ed key nonce) (header ed ad)

pub after-edition : (ed : Edition) (key nonce ad : List ℕ) (s : List Bool) (a : Engine) → state_of a ≡ run (begun ed key nonce ad) s → a.edition ≡ ed
unfolding begun initialised started
after-edition ed key nonce ad s a e =
    carried a (run (begun ed key nonce ad) s) e ∙ run-edition (begun ed key nonce ad) s ∙ run-edition (initialised ed key nonce) (header ed ad)

pub begins : (ed : Edition) (key nonce ad : List ℕ) (a b c : Engine) → state_of a ≡ initialised ed key nonce
    → state_of b ≡ run (state_of a) (bits_in a.edition (coded_length (length ad))) → state_of c ≡ run (state_of b) (bits_in b.edition ad) → state_of c ≡ begun ed key nonce ad
unfolding begun header
begins ed key nonce ad a b c start coded absorbed =
    absorbed
    ∙ ap₂ (λ (v : Edition) (st : State). run st (bits_in v ad)) (kept a b (bits_in a.edition (coded_length (length ad))) coded ∙ same)
    (coded ∙ ap₂ (λ (v : Edition) (st : State). run st (bits_in v (coded_length (length ad)))) same start)
    ∙ sym (run-append (initialised ed key nonce) (bits_in ed (coded_length (length ad))) (bits_in ed ad))
  where
    same : a.edition ≡ ed
    same = unfold initialised started in (carried a (initialised ed key nonce) start)

-- Two bytes and three, one after the other.
module _ (a b c : Engine) (x y : ℕ) (first : state_of b ≡ run (state_of a) (bits_in a.edition (x ∷ [])))
    (second : state_of c ≡ run (state_of b) (bits_in b.edition (y ∷ []))) where
  behind : state_of c ≡ run (state_of b) (bits_in a.edition (y ∷ []))
  behind = second ∙ ap (λ (v : Edition). run (state_of b) (bits_in v (y ∷ []))) (kept a b (bits_in a.edition (x ∷ [])) first)

  pub absorbs_two : state_of c ≡ run (state_of a) (bits_in a.edition (x ∷ y ∷ []))
  absorbs_two = run_two a.edition (state_of a) x y first behind

  pub absorbs_three : (d : Engine) (z : ℕ) → state_of d ≡ run (state_of c) (bits_in c.edition (z ∷ [])) → state_of d ≡ run (state_of a) (bits_in a.edition (x ∷ y ∷ z ∷ []))
  absorbs_three d z third =
      run_three a.edition (state_of a) x y first behind z
      (third ∙ ap (λ (v : Edition). run (state_of c) (bits_in v (z ∷ []))) (kept a c (bits_in a.edition (x ∷ y ∷ [])) absorbs_two))
