-- A sealed payload of Grain-128a: the ciphertext, then the tag (source document 003, section 2.4; document 02, C-16); and the message without a tag
-- (section 2.3).
use Rattle.std.specs.Prelude.{Bool, true, List, [], ◌∷◌, ◌++◌, ℕ, ◌+◌, ◌-◌, ◌*◌, ◌/◌, length, drop}
use Rattle.bits.specs.Strings.{zeros}
use Rattle.generators.specs.Strokes.{listed}
use Rattle.machine.specs.Machine.{run, encipher, decipher}
use Rattle.tagged.specs.Cipher.{Cipher}
use Rattle.grain128a.specs.Bits.{bits, bytes, flip}
use Rattle.grain128a.specs.StartUp.{warmed, preoutput_of, initialised}

-- The authenticated string: the message and a single 1.
unfoldable pub authenticated : (message : List ℕ) → List Bool
authenticated message = bits message ++ (true ∷ [])

unfoldable pub ciphertext : (key nonce message : List ℕ) → List ℕ
ciphertext key nonce message = bytes (length message) (encipher (initialised key nonce) (bits message))

-- The message of a ciphertext.
unfoldable pub deciphered : (key nonce ciphertext : List ℕ) → List ℕ
deciphered key nonce c = bytes (length c) (decipher (initialised key nonce) (bits c))

-- The bytes that w bits take, and the bits that are left in the last of them.
abbrev pub tag_size : (w : ℕ) → ℕ
tag_size w = (w + 7) / 8

abbrev pub pad : (w : ℕ) → ℕ
pad w = 8 * tag_size w - w

-- A register of 32 places cut as a tag of w bits is: its last w places.
abbrev pub cut : (w : ℕ) → List Bool → List Bool
cut w r = drop (32 - w) r

-- A tag of w bits is the last w of the accumulator's 32 places after the final 1.
unfoldable pub tag_bits : (w : ℕ) → (key nonce message : List ℕ) → List Bool
tag_bits w key nonce message = cut w (run (initialised key nonce) (authenticated message)).authenticator.accumulator

-- It stands in whole bytes; the bits past its length are zeros.
unfoldable pub tag : (w : ℕ) → (key nonce message : List ℕ) → List ℕ
tag w key nonce message = bytes (tag_size w) (tag_bits w key nonce message ++ zeros (pad w))

unfoldable pub cipher : (w : ℕ) → (key nonce : List ℕ) → Cipher
cipher w key nonce = record { size = tag_size w; ciphertext = ciphertext key nonce; deciphered = deciphered key nonce; tag = tag w key nonce }

unfoldable pub payload : (w : ℕ) → (key nonce message : List ℕ) → List ℕ
payload w key nonce message = ciphertext key nonce message ++ tag w key nonce message

-- Without authentication keystream bit i is pre-output i. It is added to the message.
unfoldable pub with_keystream : (key nonce message : List ℕ) → List ℕ
with_keystream key nonce message = flip message (listed (8 * length message) (preoutput_of (warmed key nonce)))
