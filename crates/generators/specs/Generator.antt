-- A generator: its two registers, its clock, and what the clock adds (source document 000, sections 2.1 and 2.2; the clock is that of all Grain ciphers).
use Rattle.std.specs.Prelude.{◌≡◌, List, [], ◌∷◌, ℕ, zero, suc, length, get_or}
use Rattle.bits.specs.Strings.{shift}
use Rattle.bits.specs.Times.{times}
use Rattle.generators.specs.Algebra.{Algebra}
use Rattle.generators.specs.Functions.{Functions}

pub record Generator (A : Type 0) : Type 0 where
  pub lfsr : List A
  pub nfsr : List A

-- Both registers have n places.
pub record Sized {A : Type 0} (n : ℕ) (g : Generator A) : Type 0 where
  pub lfsr : length g.lfsr ≡ n
  pub nfsr : length g.nfsr ≡ n

module _ {A : Type 0} {over : Algebra A} (by : Functions over) where
  -- The content of each place of a register.
  abbrev pub place : List A → ℕ → A
  place r k = get_or r k over.zero

  -- The new bits of a clock, each with what is added to it; in plain running that is zero.
  abbrev pub lfsr_bit : (s : ℕ → A) → A → A
  lfsr_bit s added = over.sum (by.linear s) added

  abbrev pub nfsr_bit : (s b : ℕ → A) → A → A
  nfsr_bit s b added = over.sum (over.sum (s 0) (by.nonlinear b)) added

  unfoldable pub preoutput : Generator A → A
  preoutput g = by.output (place g.lfsr) (place g.nfsr)

  -- One clock: each register moves one place down and its last place takes the new bit. All is taken from the state before the clock.
  unfoldable pub clock : Generator A → (to_lfsr to_nfsr : A) → Generator A
  clock g to_lfsr to_nfsr = record {
    lfsr = shift g.lfsr (lfsr_bit (place g.lfsr) to_lfsr);
    nfsr = shift g.nfsr (nfsr_bit (place g.lfsr) (place g.nfsr) to_nfsr);
  }

  -- Plain running: nothing is added.
  abbrev pub plain : Generator A → Generator A
  plain g = clock g over.zero over.zero

  -- The pre-outputs of every p-th of p n plain clocks, from the first on.
  unfoldable pub every : (p : ℕ) → ℕ → Generator A → List A
  every p zero g = []
  every p (suc n) g = preoutput g ∷ every p n (times p plain g)

  -- The pre-output is added to both new bits.
  abbrev pub fed_back : Generator A → Generator A
  fed_back g = clock g (preoutput g) (preoutput g)

  -- A key bit is added to the new LFSR bit only.
  abbrev pub keyed : Generator A → A → Generator A
  keyed g k = clock g k over.zero

  -- A clock for each bit of two strings: the pre-output is added to both new bits, and so is a bit of the first string to the new LFSR bit and
  -- one of the second to the new NFSR bit.
  unfoldable pub fed_back_with : Generator A → (to_lfsr to_nfsr : List A) → Generator A
  fed_back_with g [] ls = g
  fed_back_with g (k ∷ ks) [] = g
  fed_back_with g (k ∷ ks) (l ∷ ls) = fed_back_with (clock g (over.sum (preoutput g) k) (over.sum (preoutput g) l)) ks ls
