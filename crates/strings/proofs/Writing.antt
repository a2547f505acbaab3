-- Byte strings with keystream added, written to the front of an output one piece after the other.
-- Assumes nothing.
use mathlib.Core.Path.{◌≡◌, refl, sym, ap, ap₂, ◌∙◌, subst}
use mathlib.Core.Bool.{Bool, true, false, cond}
use mathlib.Core.List.{List, [], ◌++◌}
use Prim.Native.Nat.{ℕ, ◌+◌, ◌*◌, ◌≤◌}
use native.Mathlib.Nat.{mul-add}
use native.Mathlib.Omega.{arith}
use lib.Bits.{bit_xor}
use lib.ListN.{length, take, drop, length-append, length-drop}
use lib.Seq.{length-take-le}
use Rattle.bits.specs.Bytes.{word, bits, bytes, flip}
use Rattle.bits.specs.Strings.{◌⊞◌}
use Rattle.bits.specs.Times.{times}
use Rattle.bits.proofs.Lowest.{word-xor}
use Rattle.bits.proofs.Times.{times-add}
use Rattle.generators.specs.Generator.{Generator, plain, every}
use Rattle.generators.proofs.Spaced.{clocks-none}
use Rattle.generators.specs.Keystream.{clocked}
use Rattle.generators.proofs.Keystream.{Pieces, both-written}
use Rattle.preoutput.specs.declared.Registers.{Registers}
use Rattle.preoutput.specs.Functions.{grain128}
use Rattle.preoutput.specs.Words.{generator_of}
use Rattle.machine.specs.declared.edition.Edition.{Edition}
use Rattle.machine.specs.declared.engine.Engine.{Engine}
use Rattle.machine.specs.Engine.{state_of, Crypts}
use Rattle.machine.specs.Machine.{State, run, crypt}
use Rattle.machine.proofs.Machine.{run-edition}
use Rattle.startup.specs.Editions.{bits_in, bytes_in, flip_in}
use Rattle.startup.proofs.Order.{ordered-none, length-bits_in, flip_in-bytes, flipping}
use Rattle.strings.specs.Strings.{CryptsAll, Continues, with_keystream, Adds}
use Rattle.strings.proofs.OverBytes.{through, through-append, through-clocked, over_pieces, crypts-through}
use Rattle.strings.proofs.ByteStrings.{crypted-bytes}

-- The first piece written, and the second behind it.
module _ (e : Edition) {s t whole : List ℕ} {i : ℕ} (pieces : Pieces s t whole i) where
  pub adds-pieces : {p : ℕ} {g : Generator Bool} {lent mid output out : List ℕ} {a b : Registers}
      → Adds e p g s lent mid a → Adds e p (generator_of a) t (drop i mid) output b → out ≡ take i mid ++ output → Adds e p g whole lent out b
  adds-pieces {p} {g} {lent} {mid} first second both = record {
    written = both-written grain128 (flipping e) p g pieces lent first.written (second.written ∙ ap (λ (h : Generator Bool). with_keystream e p h t ++ drop (length t) (drop i mid)) first.generator) both;
    generator =
        second.generator ∙ ap (clocked grain128 p (length t)) first.generator ∙ times-add (plain grain128) (p * (8 * length s)) (p * (8 * length t)) g
        ∙ ap (λ (n : ℕ). times n (plain grain128) g)
        (sym (mul-add p (8 * length s) (8 * length t)) ∙ ap (λ (n : ℕ). p * n) (sym (mul-add 8 (length s) (length t)) ∙ ap (λ (n : ℕ). 8 * n) (sym (length-append s t) ∙ ap length pieces.joined)));
  }

  pub crypts-pieces : {writes sealing : Bool} {st : State} {lent mid output out : List ℕ} {a b : Engine}
      → CryptsAll e writes sealing st s lent mid a → CryptsAll e true sealing (state_of a) t (drop i mid) output b → out ≡ cond writes (take i mid ++ output) mid → CryptsAll e writes sealing st whole lent out b
  unfolding through
  crypts-pieces {writes} {sealing} {st} {lent} {mid} {output} {out} {a} first second both = record {
    written = go writes first.written both;
    engine = over_pieces e (through sealing) (through-append sealing) st pieces first.engine second.engine;
  }
    where
      moved : (state_of a).generator ≡ clocked grain128 2 (length s) st.generator
      moved =
          ap (λ (after : State). after.generator) first.engine ∙ through-clocked sealing st (bits_in e s)
          ∙ ap (λ (n : ℕ). times (2 * n) (plain grain128) st.generator) (length-bits_in e s)

      go : (w : Bool) → mid ≡ cond w (bytes_in e (length s) (crypt sealing st (bits_in e s)) ++ drop (length s) lent) lent → out ≡ cond w (take i mid ++ output) mid
          → out ≡ cond w (bytes_in e (length whole) (crypt sealing st (bits_in e whole)) ++ drop (length whole) lent) lent
      go true wrote placed =
          both-written grain128 (flipping e) 2 st.generator pieces lent (wrote ∙ ap (λ (l : List ℕ). l ++ drop (length s) lent) (crypted-bytes e st sealing s))
          (second.written ∙ ap (λ (l : List ℕ). l ++ drop (length t) (drop i mid)) (crypted-bytes e (state_of a) sealing t ∙ ap (λ (h : Generator Bool). with_keystream e 2 h t) moved)) placed
          ∙ ap (λ (l : List ℕ). l ++ drop (length whole) lent) (sym (crypted-bytes e st sealing whole))
      go false wrote placed = placed ∙ wrote

-- The k bytes behind the first i, where they are the lowest bits of a number x.
module _ (e : Edition) (s : List ℕ) (i k x : ℕ) (inside : i + k ≤ length s) (spelled : word (8 * k) x ≡ bits_in e (take k (drop i s))) (lent : List ℕ) where
  long : k ≡ length (take k (drop i s))
  long = sym (length-take-le k (drop i s) (omega (arith, length-drop i s)))

  pub adds_piece : {p : ℕ} {g : Generator Bool} (y : ℕ) {r : Registers} → word (8 * k) y ≡ every grain128 p (8 * k) g → generator_of r ≡ clocked grain128 p k g
      → Adds e p g (take k (drop i s)) lent (bytes_in e k (word (8 * k) (bit_xor x y)) ++ drop k lent) r
  adds_piece {p} {g} y keystream clocks = record {
    written =
        ap (λ (l : List Bool). bytes_in e k l ++ drop k lent) (word-xor (8 * k) x y ∙ ap₂ ◌⊞◌ spelled keystream)
        ∙ ap (λ (n : ℕ). bytes_in e n (bits_in e (take k (drop i s)) ⊞ every grain128 p (8 * n) g) ++ drop n lent) long
        ∙ ap (λ (l : List ℕ). l ++ drop (length (take k (drop i s))) lent) (flip_in-bytes e (take k (drop i s)) (every grain128 p (8 * length (take k (drop i s))) g));
    generator = clocks ∙ ap (λ (n : ℕ). clocked grain128 p n g) long;
  }

  pub crypts_piece : {sealing : Bool} {st : State} {y : ℕ} {r : Engine} → Crypts (8 * k) sealing st x y r
      → CryptsAll e true sealing st (take k (drop i s)) lent (bytes_in e k (word (8 * k) y) ++ drop k lent) r
  unfolding through
  crypts_piece {sealing} {st} c = record {
    written =
        ap (λ (l : List Bool). bytes_in e k l ++ drop k lent) (c.crypted ∙ ap (crypt sealing st) spelled)
        ∙ ap (λ (n : ℕ). bytes_in e n (crypt sealing st (bits_in e (take k (drop i s)))) ++ drop n lent) long;
    engine = crypts-through c spelled;
  }

-- The first part gone over, and the rest by the machine that it left, which has kept its edition.
pub crypts-on : (e a r : Engine) {writes sealing : Bool} {s whole lent mid out : List ℕ} → CryptsAll e.edition writes sealing (state_of e) s lent mid a
    → Continues a.edition writes sealing a r s whole mid out → CryptsAll e.edition writes sealing (state_of e) whole lent out r
unfolding state_of
crypts-on e a r {writes} {sealing} {s} {whole} {lent} {mid} {out} first rest =
    subst (λ (edition : Edition). Continues edition writes sealing a r s whole mid out) (ap (λ (st : State). st.edition) first.engine ∙ run-edition (state_of e) _) rest (state_of e) lent first

-- Nothing has been gone over before the first piece.
pub crypts-none : (e : Edition) (writes sealing : Bool) (a : Engine) (lent : List ℕ) → CryptsAll e writes sealing (state_of a) [] lent lent a
unfolding bits bytes crypt run bits_in bytes_in
crypts-none e true true a lent = record { written = rw (ordered-none e) refl; engine = rw (ordered-none e) refl }
crypts-none e true false a lent = record { written = rw (ordered-none e) refl; engine = rw (ordered-none e) refl }
crypts-none e false true a lent = record { written = refl; engine = rw (ordered-none e) refl }
crypts-none e false false a lent = record { written = refl; engine = rw (ordered-none e) refl }

pub adds_none : (e : Edition) (p : ℕ) (r : Registers) (lent : List ℕ) → Adds e p (generator_of r) [] lent lent r
unfolding bytes every flip flip_in
adds_none e p r lent = record { written = rw (ordered-none e) (rw (ordered-none e) refl); generator = sym (clocks-none grain128 p (generator_of r)) }
