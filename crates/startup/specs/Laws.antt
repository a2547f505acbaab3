-- Laws of the editions: the order of bits place by place, there and back; the loading place by place, the size of the state that start-up
-- makes, and its clocks.
use Rattle.std.specs.Prelude.{◌≡◌, Bool, true, false, ℕ, ◌+◌, ◌-◌, ◌*◌, ◌≤◌, ◌<◌, length, get_or, take, drop, replicate}
use mathlib.Core.List.{List, ◌++◌, map, zip_with}
use Rattle.bits.specs.Bit.{◌⊻◌}
use Rattle.bits.specs.Bytes.{Bytes, bit}
use Rattle.bits.specs.Strings.{◌⊞◌}
use Rattle.bits.specs.Times.{in_turn}
use Rattle.generators.specs.Generator.{Generator, preoutput, clock, fed_back, keyed}
use Rattle.preoutput.specs.Functions.{grain128}
use Rattle.machine.specs.declared.edition.Edition.{Edition}
use Rattle.machine.specs.declared.edition.Edition.TheVariants.{First, Second}
use Rattle.machine.specs.Laws.{Sized}
use Rattle.key.specs.Sizes.{key_size, nonce_size}
use Rattle.startup.specs.StartUp.{loaded}
use Rattle.startup.specs.Editions.{bits_in, bytes_in, flip_in, filling, running_from, initialised}

-- The weight of the bit of a byte that comes at place j, as a power of two.
abbrev pub weight : Edition → (j : ℕ) → ℕ
weight First j = 7 - j
weight Second j = j

-- Bytes are the bits of each in this order, one byte after the other; the bits make the bytes again, bytes made of bits have these bits, and
-- flipped bytes have the bits with the flips added.
pub record Order (e : Edition) : Type 0 where
  pub places : (s : List ℕ) (i j : ℕ) → i < length s → j < 8 → get_or (bits_in e s) (8 * i + j) false ≡ bit (weight e j) (get_or s i 0)
  pub there : (s : List ℕ) → Bytes s → bytes_in e (length s) (bits_in e s) ≡ s
  pub back : (n : ℕ) (s : List Bool) → length s ≡ 8 * n → bits_in e (bytes_in e n s) ≡ s
  pub flips : (s : List ℕ) (d : List Bool) → length d ≡ 8 * length s → bits_in e (flip_in e s d) ≡ bits_in e s ⊞ d

pub record Loading (e : Edition) (key nonce : List ℕ) : Type 0 where
  pub nfsr : (loaded (bits_in e key) (bits_in e nonce)).nfsr ≡ bits_in e key
  pub nonce_bits : (i : ℕ) → i < 96 → get_or (loaded (bits_in e key) (bits_in e nonce)).lfsr i false ≡ get_or (bits_in e nonce) i false
  pub ones : (i : ℕ) → 96 ≤ i → i < 127 → get_or (loaded (bits_in e key) (bits_in e nonce)).lfsr i false ≡ true
  pub last : get_or (loaded (bits_in e key) (bits_in e nonce)).lfsr 127 true ≡ false

-- Start-up makes a state whose accumulator and authenticator's register have 64 places.
abbrev pub StartsSized : Type 0
StartsSized = (e : Edition) (key nonce : List ℕ) → length key ≡ key_size → length nonce ≡ nonce_size → Sized 64 (initialised e key nonce)

-- The clocks before those that fill, in their order.
unfoldable pub warming_clocks : Edition → (key : List Bool) → List (Generator Bool → Generator Bool)
warming_clocks First key = replicate 256 (fed_back grain128)
warming_clocks Second key =
    replicate 320 (fed_back grain128)
    ++ zip_with (λ k l g. clock grain128 g (preoutput grain128 g ⊻ k) (preoutput grain128 g ⊻ l)) (drop 64 key) (take 64 key)

-- All clocks of start-up.
unfoldable pub start_up_clocks : Edition → (key : List ℕ) → List (Generator Bool → Generator Bool)
start_up_clocks e key = warming_clocks e (bits_in e key) ++ map (λ k g. keyed grain128 g k) (filling e (bits_in e key))

-- There are as many as precede the clock at which running starts, and they lead from the loaded registers to those in which start-up ends.
pub record Clocked (e : Edition) (key nonce : List ℕ) : Type 0 where
  pub count : length key ≡ key_size → length (start_up_clocks e key) ≡ running_from e
  pub lead : in_turn (start_up_clocks e key) (loaded (bits_in e key) (bits_in e nonce)) ≡ (initialised e key nonce).generator
