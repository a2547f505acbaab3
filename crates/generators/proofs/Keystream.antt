-- Byte strings with keystream added: their size, the string given back, and strings in pieces, written to an output one after the other.
-- Assumes nothing.
use mathlib.Core.Path.{◌≡◌, sym, ap, ap₂, ◌∙◌}
use mathlib.Core.Bool.{Bool}
use mathlib.Core.List.{List, ◌++◌, append_assoc}
use Prim.Native.Nat.{ℕ, ◌+◌, ◌*◌, ◌≤◌}
use native.Mathlib.Nat.{mul-add}
use lib.ListN.{length, take, drop, length-append}
use lib.Seq.{take_at, drop_at, drop-drop, take-add, length-take-le}
use Rattle.bits.specs.Bytes.{Bytes, flip}
use Rattle.bits.proofs.Flip.{Flips, length-flip, flip_twice, flip-append}
use Rattle.generators.specs.Algebra.{single}
use Rattle.generators.specs.Functions.{Functions}
use Rattle.generators.specs.Generator.{Generator, every}
use Rattle.generators.specs.Keystream.{added, clocked}
use Rattle.generators.proofs.Spaced.{length-every, every_append}

-- The flips of an order of bits: they keep the length, join as strings join, and undo themselves.
pub record Flipping (flip : List ℕ → List Bool → List ℕ) : Type 0 where
  pub length : (s : List ℕ) (d : List Bool) → length (flip s d) ≡ length s
  pub append : (s t : List ℕ) (d f : List Bool) → Flips s d → flip (s ++ t) (d ++ f) ≡ flip s d ++ flip t f
  pub twice : (s : List ℕ) (d : List Bool) → Bytes s → Flips s d → flip (flip s d) d ≡ s

-- Those of bits from the top of a byte down.
pub flipping : Flipping flip
flipping = record { length = length-flip; append = flip-append; twice = flip_twice }

-- A string in two pieces, the second from place i on.
pub record Pieces (s t whole : List ℕ) (i : ℕ) : Type 0 where
  pub joined : s ++ t ≡ whole
  pub place : length s ≡ i

-- The k bytes behind the first i.
pub more : (s : List ℕ) (i k : ℕ) → i ≤ length s → Pieces (take i s) (take k (drop i s)) (take (i + k) s) i
more s i k h = record { joined = sym (take-add i k s); place = length-take-le i s h }

module _ (by : Functions single) {flip : List ℕ → List Bool → List ℕ} (laws : Flipping flip) (p : ℕ) where
  module _ (g : Generator Bool) where
    pub length-added : (s : List ℕ) → length (added by flip p g s) ≡ length s
    length-added s = laws.length s (every by p (8 * length s) g)

    -- Added twice it gives the string back.
    pub added_twice : (s : List ℕ) → Bytes s → added by flip p g (added by flip p g s) ≡ s
    added_twice s h =
        ap (λ (n : ℕ). flip (added by flip p g s) (every by p (8 * n) g)) (length-added s)
        ∙ laws.twice s (every by p (8 * length s) g) h (length-every by p (8 * length s) g)

    -- Each piece takes the keystream behind that of the piece before.
    pub added-append : (s t : List ℕ) → added by flip p g (s ++ t) ≡ added by flip p g s ++ added by flip p (clocked by p (length s) g) t
    added-append s t =
        ap (flip (s ++ t)) (ap (λ (n : ℕ). every by p n g) (ap (λ (n : ℕ). 8 * n) (length-append s t) ∙ mul-add 8 (length s) (length t))
        ∙ every_append by p (8 * length s) (8 * length t) g)
        ∙ laws.append s t (every by p (8 * length s) g) (every by p (8 * length t) (clocked by p (length s) g)) (length-every by p (8 * length s) g)

    -- The first piece written, and the second behind it.
    pub both-written : {s t whole : List ℕ} {i : ℕ} → Pieces s t whole i → (lent : List ℕ) {mid output out : List ℕ} → mid ≡ added by flip p g s ++ drop (length s) lent
        → output ≡ added by flip p (clocked by p (length s) g) t ++ drop (length t) (drop i mid) → out ≡ take i mid ++ output
        → out ≡ added by flip p g whole ++ drop (length whole) lent
    both-written {s} {t} {whole} {i} pieces lent first second both =
        both ∙ ap₂ ◌++◌ (ap (take i) first ∙ take_at (added by flip p g s) (drop (length s) lent) i long)
        (second ∙ ap (λ (l : List ℕ). added by flip p (clocked by p (length s) g) t ++ drop (length t) l) (ap (drop i) first ∙ drop_at (added by flip p g s) (drop (length s) lent) i long))
        ∙ sym (append_assoc (added by flip p g s) (added by flip p (clocked by p (length s) g) t) (drop (length t) (drop (length s) lent)))
        ∙ ap₂ ◌++◌ (sym (added-append s t)) (drop-drop (length t) (length s) lent ∙ ap (λ (n : ℕ). drop n lent) (sym (length-append s t)))
        ∙ ap (λ (l : List ℕ). added by flip p g l ++ drop (length l) lent) pieces.joined
      where
        long : length (added by flip p g s) ≡ i
        long = length-added s ∙ pieces.place
