-- A message with the keystream added in turns of 64 clocks, each of which goes over eight bytes, or those that are left.
-- Assumes nothing.
use mathlib.Core.Path.{◌≡◌, refl, sym, ap, ◌∙◌}
use mathlib.Core.Bool.{Bool}
use mathlib.Core.List.{List, [], ◌∷◌, ◌++◌, append-nil}
use Prim.Native.Nat.{ℕ, ◌+◌, ◌*◌, ◌<◌, ◌≤◌, min}
use native.Mathlib.Omega.{arith}
use lib.ListN.{length, take, drop, length-append, length-take, drop_of_length-le}
use lib.Seq.{take_all, take_at, drop_at, drop-drop, length-take-le}
use Rattle.bits.specs.Bytes.{word, flip, bits, bytes}
use Rattle.bits.specs.Times.{times}
use Rattle.bits.proofs.Times.{times-add}
use Rattle.generators.specs.Algebra.{single}
use Rattle.generators.specs.Functions.{Functions}
use Rattle.generators.specs.Generator.{Generator, plain, every}
use Rattle.generators.specs.Keystream.{added, clocked}
use Rattle.generators.proofs.Keystream.{flipping, more, both-written}
use Rattle.generators.proofs.Spaced.{take-every, clocks-none}

-- What n turns leave: the message gone over so far, and the generator clocked as far.
pub record Adds (by : Functions single) (g : Generator Bool) (s lent out : List ℕ) (now : Generator Bool) (n : ℕ) : Type 0 where
  pub written : out ≡ added by flip 1 g (take (8 * n) s) ++ drop (length (take (8 * n) s)) lent
  pub generator : now ≡ clocked by 1 (8 * n) g

pub adds_none : (by : Functions single) (g : Generator Bool) (s lent : List ℕ) → Adds by g s lent lent g 0
unfolding bits bytes flip every
adds_none by g s lent = record { written = refl; generator = sym (clocks-none by 1 g) }

-- What is left after n turns.
abbrev pub left : List ℕ → (n : ℕ) → List ℕ
left s n = drop (8 * n) s

-- The piece that comes off the front of what is left, and what is left behind it.
pub eight_off : (piece behind whole : List ℕ) → whole ≡ piece ++ behind → length piece ≡ min 8 (length whole) → (piece ≡ take 8 whole) × (behind ≡ drop 8 whole)
eight_off piece [] whole e h =
    let all : whole ≡ piece = e ∙ append-nil piece in
    let few : length piece ≤ 8 = omega arith in (
      sym (ap (take 8) all ∙ take_all 8 piece few),
      sym (ap (drop 8) all ∙ drop_of_length-le piece few),
    )
eight_off piece (x ∷ behind) whole e h =
    let eight : length piece ≡ 8 = omega (arith, ap length e, length-append piece (x ∷ behind), h) in (
      sym (ap (take 8) e ∙ take_at piece (x ∷ behind) 8 eight),
      sym (ap (drop 8) e ∙ drop_at piece (x ∷ behind) 8 eight),
    )

pub left_less : (s : List ℕ) (n : ℕ) → drop 8 (left s n) ≡ left s (n + 1)
left_less s n = drop-drop 8 (8 * n) s ∙ ap (λ (k : ℕ). drop k s) (omega arith)

-- One turn more, with the first of the outputs of 64 clocks.
module _ {by : Functions single} {g now : Generator Bool} {s lent out : List ℕ} {n : ℕ} (adds : Adds by g s lent out now n) (more_left : 8 * n < length s) (k : ℕ) where
  long : length (take (8 * n) s) ≡ 8 * n
  long = length-take-le (8 * n) s (omega arith)

  next : 8 * n + 8 ≡ 8 * (n + 1)
  next = omega arith

  pub adds_turn : {after : Generator Bool} {piece ys out' : List ℕ} → word 64 k ≡ every by 1 64 now → after ≡ times 64 (plain by) now → piece ≡ take 8 (left s n)
      → ys ≡ flip piece (take (8 * length piece) (word 64 k)) → out' ≡ take (8 * n) out ++ (ys ++ drop (length piece) (drop (8 * n) out)) → Adds by g s lent out' after (n + 1)
  adds_turn {after} {piece} {ys} {out'} outputs clocks its ey eo = record {
    written =
        both-written by flipping 1 g (more s (8 * n) 8 (omega arith)) lent adds.written
        (ap (λ (y : List ℕ). y ++ drop (length piece) (drop (8 * n) out)) (ey ∙ ap (flip piece) keystream)
        ∙ ap (λ (p : List ℕ). added by flip 1 (clocked by 1 (length (take (8 * n) s)) g) p ++ drop (length p) (drop (8 * n) out)) its) eo
        ∙ ap (λ (m : ℕ). added by flip 1 g (take m s) ++ drop (length (take m s)) lent) next;
    generator =
        clocks ∙ ap (times 64 (plain by)) adds.generator ∙ times-add (plain by) (1 * (8 * (8 * n))) 64 g
        ∙ ap (λ (m : ℕ). times m (plain by) g) (omega arith);
  }
    where
      keystream : take (8 * length piece) (word 64 k) ≡ every by 1 (8 * length piece) (clocked by 1 (length (take (8 * n) s)) g)
      keystream =
          ap (take (8 * length piece)) outputs ∙ take-every by 1 (8 * length piece) 64 now (omega (arith, ap length its, length-take 8 (left s n)))
          ∙ ap (every by 1 (8 * length piece)) (adds.generator ∙ ap (λ (m : ℕ). clocked by 1 m g) (sym long))
