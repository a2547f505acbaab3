-- The machine over byte strings, one piece after the other.
-- Assumes nothing.
use mathlib.Core.Path.{◌≡◌, refl, sym, ap, ap₂, ◌∙◌}
use mathlib.Core.Bool.{Bool, true, false, cond}
use mathlib.Core.List.{List, [], ◌∷◌, ◌++◌}
use Prim.Native.Nat.{ℕ, ◌+◌, ◌*◌, ◌/◌, ◌<◌, ◌≤◌}
use native.Mathlib.Nat.{add-mul}
use native.Mathlib.Omega.{arith}
use lib.ListN.{length, get_or, take, drop, take-append-drop, length-append}
use lib.Seq.{drop-cons, length-take-le}
use Rattle.bits.specs.Bit.{◌⊻◌}
use Rattle.bits.specs.Bytes.{word}
use Rattle.bits.specs.Times.{times}
use Rattle.generators.specs.Generator.{plain}
use Rattle.generators.proofs.Keystream.{Pieces, more}
use Rattle.preoutput.specs.Functions.{grain128}
use Rattle.machine.specs.declared.edition.Edition.{Edition}
use Rattle.machine.specs.declared.engine.Engine.{Engine}
use Rattle.machine.specs.Engine.{state_of, Crypts}
use Rattle.machine.specs.Machine.{State, keystream_bit, step, run, crypt}
use Rattle.machine.proofs.Machine.{run-append, length-crypt}
use Rattle.machine.proofs.Clocks.{run-clocked}
use Rattle.startup.specs.Editions.{bits_in, bytes_in}
use Rattle.startup.proofs.Order.{bits_in-append, length-bits_in, bytes_in-append}

-- The machine after the message whose bits are given or come out.
unfoldable pub through : (sealing : Bool) → State → List Bool → State
through sealing st s = run st (cond sealing s (crypt sealing st s))

through-cons : (sealing : Bool) (st : State) (x : Bool) (s : List Bool) → through sealing st (x ∷ s) ≡ through sealing (step st (cond sealing x (x ⊻ keystream_bit st))) s
unfolding through crypt run
through-cons true st x s = refl
through-cons false st x s = refl

through-nil : (sealing : Bool) (st : State) → through sealing st [] ≡ st
unfolding through crypt run
through-nil true st = refl
through-nil false st = refl

pub through-append : (sealing : Bool) (st : State) (s t : List Bool) → through sealing st (s ++ t) ≡ through sealing (through sealing st s) t
through-append sealing st [] t = ap (λ (a : State). through sealing a t) (sym (through-nil sealing st))
through-append sealing st (x ∷ s) t =
    through-cons sealing st x (s ++ t) ∙ through-append sealing (step st (cond sealing x (x ⊻ keystream_bit st))) s t
    ∙ ap (λ (a : State). through sealing a t) (sym (through-cons sealing st x s))

-- The bits that come out of one string after the other.
pub crypt-append : (sealing : Bool) (st : State) (s t : List Bool) → crypt sealing st (s ++ t) ≡ crypt sealing st s ++ crypt sealing (through sealing st s) t
unfolding crypt
crypt-append sealing st [] t = ap (λ (a : State). crypt sealing a t) (sym (through-nil sealing st))
crypt-append sealing st (x ∷ s) t =
    let next = step st (cond sealing x (x ⊻ keystream_bit st)) in
    ap (λ (l : List Bool). (x ⊻ keystream_bit st) ∷ l)
    (crypt-append sealing next s t ∙ ap (λ (a : State). crypt sealing next s ++ crypt sealing a t) (sym (through-cons sealing st x s)))

-- Whatever the message, as many clocks.
pub through-clocked : (sealing : Bool) (st : State) (s : List Bool) → (through sealing st s).generator ≡ times (2 * length s) (plain grain128) st.generator
unfolding through
through-clocked true st s = run-clocked st s
through-clocked false st s = run-clocked st (crypt false st s) ∙ ap (λ (n : ℕ). times (2 * n) (plain grain128) st.generator) (length-crypt false st s)

-- Word i behind the words before it.
pub more_word : (s : List ℕ) (i : ℕ) → i * 4 ≤ length s → Pieces (take (i * 4) s) (take 4 (drop (i * 4) s)) (take ((i + 1) * 4) s) (i * 4)
more_word s i h = rw (add-mul i 1 4) (more s (i * 4) 4 h)

-- All whole words, and the bytes that are left.
pub words-and-bytes : (s : List ℕ) → Pieces (take (length s / 4 * 4) s) (drop (length s / 4 * 4) s) s (length s / 4 * 4)
words-and-bytes s = record { joined = take-append-drop (length s / 4 * 4) s; place = length-take-le (length s / 4 * 4) s (omega arith) }

-- A byte of a string, as a piece.
pub byte_piece : (s : List ℕ) (i : ℕ) → i < length s → get_or s i 0 ∷ [] ≡ take 1 (drop i s)
byte_piece s i h = sym (ap (take 1) (drop-cons s i 0 h))

-- What goes over strings of bits one after the other goes over the pieces of a byte string.
module _ (e : Edition) (over : State → List Bool → State) (appends : (st : State) (s t : List Bool) → over st (s ++ t) ≡ over (over st s) t) where
  pub over_pieces : {s t whole : List ℕ} {i : ℕ} (st : State) {a b : State} → Pieces s t whole i → a ≡ over st (bits_in e s) → b ≡ over a (bits_in e t) → b ≡ over st (bits_in e whole)
  over_pieces {s} {t} st pieces first second =
      second ∙ ap (λ (x : State). over x (bits_in e t)) first
      ∙ sym (ap (over st) (bits_in-append e s t) ∙ appends st (bits_in e s) (bits_in e t)) ∙ ap (λ (l : List ℕ). over st (bits_in e l)) pieces.joined

-- Two bytes and three.
module _ (e : Edition) (st : State) (x y : ℕ) {a b : State} (first : a ≡ run st (bits_in e (x ∷ []))) (second : b ≡ run a (bits_in e (y ∷ []))) where
  pub run_two : b ≡ run st (bits_in e (x ∷ y ∷ []))
  run_two = over_pieces e run run-append st (record { joined = refl; place = refl }) first second

  pub run_three : (z : ℕ) {c : State} → c ≡ run b (bits_in e (z ∷ [])) → c ≡ run st (bits_in e (x ∷ y ∷ z ∷ []))
  run_three z third = over_pieces e run run-append st (record { joined = refl; place = refl }) run_two third

-- The bytes that come out.
unfoldable pub crypt_bytes : Edition → (sealing : Bool) → State → List ℕ → List ℕ
crypt_bytes e sealing st s = bytes_in e (length s) (crypt sealing st (bits_in e s))

pub crypt_bytes-append : (e : Edition) (sealing : Bool) (st : State) (s t : List ℕ)
    → crypt_bytes e sealing st (s ++ t) ≡ crypt_bytes e sealing st s ++ crypt_bytes e sealing (through sealing st (bits_in e s)) t
unfolding crypt_bytes
crypt_bytes-append e sealing st s t =
    ap₂ (bytes_in e) (length-append s t) (ap (crypt sealing st) (bits_in-append e s t) ∙ crypt-append sealing st (bits_in e s) (bits_in e t))
    ∙ bytes_in-append e (length s) (length t) _ _ (length-crypt sealing st (bits_in e s) ∙ length-bits_in e s)

-- The machine after bits that are the lowest of a number.
pub crypts-through : {n : ℕ} {sealing : Bool} {st : State} {x y : ℕ} {r : Engine} {s : List Bool} → Crypts n sealing st x y r → word n x ≡ s → state_of r ≡ through sealing st s
unfolding through
crypts-through {n} {sealing} {st} {x} c e =
    c.engine ∙ ap (λ (t : List Bool). run st (cond sealing (word n x) t)) c.crypted ∙ ap (λ (s : List Bool). run st (cond sealing s (crypt sealing st s))) e
