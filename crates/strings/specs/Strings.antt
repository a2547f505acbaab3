-- Byte strings with keystream added, in an edition's order of bits, and the output that they are written to.
use Rattle.std.specs.Prelude.{◌≡◌, Bool, true, cond, List, ◌++◌, ℕ, ◌*◌, ◌≤◌, length, take, drop}
use Rattle.bits.specs.Bytes.{word}
use Rattle.bits.specs.Times.{times}
use Rattle.generators.specs.Generator.{Generator, plain}
use Rattle.generators.specs.Keystream.{added}
use Rattle.preoutput.specs.declared.Registers.{Registers}
use Rattle.preoutput.specs.Functions.{grain128}
use Rattle.preoutput.specs.Words.{generator_of}
use Rattle.machine.specs.declared.edition.Edition.{Edition}
use Rattle.machine.specs.declared.engine.Engine.{Engine}
use Rattle.machine.specs.Machine.{State, run, crypt}
use Rattle.machine.specs.Engine.{state_of}
use Rattle.startup.specs.Editions.{bits_in, bytes_in, flip_in}

-- Room for n bytes, if they are written.
abbrev pub Room : (writes : Bool) → (n : ℕ) → (out : List ℕ) → Type 0
Room writes n out = writes ≡ true → n ≤ length out

-- A string with its keystream added, at the front of the output if it is written, and the machine after the message.
pub record CryptsAll (edition : Edition) (writes sealing : Bool) (st : State) (s lent output : List ℕ) (r : Engine) : Type 0 where
  pub written : output ≡ cond writes (bytes_in edition (length s) (crypt sealing st (bits_in edition s)) ++ drop (length s) lent) lent
  pub engine : state_of r ≡ run st (cond sealing (bits_in edition s) (crypt sealing st (bits_in edition s)))

-- The string that has been gone over goes on: what held of its first part holds of the whole.
abbrev pub Continues : Edition → (writes sealing : Bool) → (e r : Engine) → (first whole before after : List ℕ) → Type 0
Continues edition writes sealing e r first whole before after =
    (st : State) (lent : List ℕ) → CryptsAll edition writes sealing st first lent before e → CryptsAll edition writes sealing st whole lent after r

-- k bytes of a word w, written from place i on.
abbrev pub pasted : Edition → List ℕ → (i k w : ℕ) → List ℕ
pasted edition out i k w = take i out ++ (bytes_in edition k (word (8 * k) w) ++ drop k (drop i out))

-- A byte string with a generator's keystream added, every p-th pre-output.
abbrev pub with_keystream : Edition → (p : ℕ) → Generator Bool → List ℕ → List ℕ
with_keystream edition p g s = added grain128 (flip_in edition) p g s

-- A string with a generator's keystream added, at the front of the output, and the generator after its clocks.
pub record Adds (edition : Edition) (p : ℕ) (g : Generator Bool) (s lent output : List ℕ) (r : Registers) : Type 0 where
  pub written : output ≡ with_keystream edition p g s ++ drop (length s) lent
  pub generator : generator_of r ≡ times (p * (8 * length s)) (plain grain128) g
