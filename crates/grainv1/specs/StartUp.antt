-- Start-up of Grain v1 and its keystream (of the eSTREAM specification; document 01, "Bits, bytes and sizes", for the order of bits).
use Rattle.std.specs.Prelude.{Bool, true, List, ◌++◌, ℕ, replicate}
use Rattle.bits.specs.Bytes.{bits, flip}
use Rattle.bits.specs.Times.{times}
use Rattle.generators.specs.Generator.{Generator, fed_back}
use Rattle.generators.specs.Keystream.{added}
use Rattle.grainv1.specs.Functions.{grainv1}

-- The NFSR takes the key, the LFSR the nonce and sixteen ones.
unfoldable pub loaded : (key nonce : List Bool) → Generator Bool
loaded key nonce = record { lfsr = nonce ++ replicate 16 true; nfsr = key }

-- 160 clocks feed the output back to both registers.
unfoldable pub started : (key nonce : List Bool) → Generator Bool
started key nonce = times 160 (fed_back grainv1) (loaded key nonce)

-- The same from the bytes of key and nonce.
unfoldable pub initialised : (key nonce : List ℕ) → Generator Bool
initialised key nonce = started (bits key) (bits nonce)

-- From then on every output is a keystream bit. It is added to the message.
unfoldable pub with_keystream : (key nonce message : List ℕ) → List ℕ
with_keystream key nonce message = added grainv1 flip 1 (initialised key nonce) message
