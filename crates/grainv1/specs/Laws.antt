-- Laws of Grain v1: which output is which keystream bit, and the sizes of registers and strings.
use Rattle.std.specs.Prelude.{◌≡◌, Bool, List, ℕ, ◌*◌, ◌<◌, length}
use Rattle.bits.specs.Bit.{◌⊻◌}
use Rattle.bits.specs.Bytes.{bits}
use Rattle.bits.specs.Strings.{places}
use Rattle.bits.specs.Times.{times}
use Rattle.generators.specs.Generator.{Sized, preoutput, plain}
use Rattle.grainv1.specs.Sizes.{key_size, nonce_size}
use Rattle.grainv1.specs.Functions.{grainv1}
use Rattle.grainv1.specs.StartUp.{initialised, with_keystream}

-- The output of clock i after start-up.
abbrev pub z : (key nonce : List ℕ) → (i : ℕ) → Bool
z key nonce i = preoutput grainv1 (times i (plain grainv1) (initialised key nonce))

pub record Enciphered (key nonce message : List ℕ) : Type 0 where
  pub as_long : length (with_keystream key nonce message) ≡ length message
  pub added : (i : ℕ) → i < 8 * length message → places (bits (with_keystream key nonce message)) i ≡ places (bits message) i ⊻ z key nonce i

-- Start-up makes registers of 80 places.
abbrev pub StartsSized : Type 0
StartsSized = (key nonce : List ℕ) → length key ≡ key_size → length nonce ≡ nonce_size → Sized 80 (initialised key nonce)
