-- A sealed payload: the ciphertext, as long as the message, then the tag (document 01, "Bits, bytes and sizes").
use Rattle.std.specs.Prelude.{List, ◌++◌, ℕ, length}
use Rattle.tagged.specs.Cipher.{Cipher}
use Rattle.tagged.specs.Payload as tagged
use Rattle.machine.specs.declared.edition.Edition.{Edition}
use Rattle.machine.specs.Machine.{State, run, encipher, decipher}
use Rattle.startup.specs.Editions.{bits_in, bytes_in, initialised}
use Rattle.payload.specs.Sizes.{tag_size}
use Rattle.payload.specs.AuthenticatedString.{header, authenticated}

-- The machine where the message begins.
unfoldable pub begun : Edition → (key nonce ad : List ℕ) → State
begun e key nonce ad = run (initialised e key nonce) (header e ad)

unfoldable pub ciphertext : Edition → (key nonce ad message : List ℕ) → List ℕ
ciphertext e key nonce ad message = bytes_in e (length message) (encipher (begun e key nonce ad) (bits_in e message))

-- The message of a ciphertext.
unfoldable pub deciphered : Edition → (key nonce ad ciphertext : List ℕ) → List ℕ
deciphered e key nonce ad c = bytes_in e (length c) (decipher (begun e key nonce ad) (bits_in e c))

-- The tag is the accumulator after the final 1.
unfoldable pub tag : Edition → (key nonce ad message : List ℕ) → List ℕ
tag e key nonce ad message = bytes_in e tag_size (run (initialised e key nonce) (authenticated e ad message)).authenticator.accumulator

unfoldable pub payload : Edition → (key nonce ad message : List ℕ) → List ℕ
payload e key nonce ad message = ciphertext e key nonce ad message ++ tag e key nonce ad message

-- The ciphertext part of a sealed input is all but its last 8 bytes, the tag part its last 8. Of an input of fewer than 8 bytes the
-- ciphertext part is the whole input, and the tag part is empty (document 02, C-21).
abbrev pub ciphertext_part : (input : List ℕ) → List ℕ
ciphertext_part = tagged.ciphertext_part tag_size

abbrev pub tag_part : (input : List ℕ) → List ℕ
tag_part = tagged.tag_part tag_size

-- The cipher under a key, a nonce and an AD.
abbrev pub cipher : Edition → (key nonce ad : List ℕ) → Cipher
cipher e key nonce ad = record { size = tag_size; ciphertext = ciphertext e key nonce ad; deciphered = deciphered e key nonce ad; tag = tag e key nonce ad }
