-- Payloads: the lengths of their pieces, and the ciphertext deciphered, flipped or not.
-- Assumes nothing.
use mathlib.Core.Path.{◌≡◌, refl, sym, ap, ap₂, ◌∙◌}
use mathlib.Core.Bool.{Bool, true, false}
use mathlib.Core.List.{List}
use Prim.Native.Nat.{ℕ, ◌+◌, ◌*◌}
use native.Mathlib.Omega.{arith}
use lib.ListN.{length, length-append}
use Rattle.bits.specs.Bytes.{Bytes}
use Rattle.bits.proofs.Flip.{Flips}
use Rattle.machine.specs.declared.edition.Edition.{Edition}
use Rattle.machine.specs.Machine.{encipher, decipher}
use Rattle.machine.proofs.Machine.{run-generator}
use Rattle.strings.proofs.OverBytes.{crypt_bytes}
use Rattle.strings.proofs.ByteStrings.{bits_in-crypt_bytes, crypt_bytes_twice, crypt_bytes_between}
use Rattle.startup.specs.Editions.{bits_in, flip_in, initialised}
use Rattle.startup.proofs.Order.{length-bits_in, length-bytes_in, bytes_in_are_bytes}
use Rattle.payload.specs.Sizes.{tag_size}
use Rattle.lengths.specs.CodedLength.{coded_length}
use Rattle.payload.specs.AuthenticatedString.{header}
use Rattle.payload.specs.Payload.{begun, ciphertext, deciphered, tag, payload}
use Rattle.payload.specs.Laws.{Lengths}
use Rattle.payload.proofs.AuthenticatedString.{length-authenticated}

-- ---- lengths

module _ (ed : Edition) (key nonce ad : List ℕ) where
  pub length_ciphertext_lem : (message : List ℕ) → length (ciphertext ed key nonce ad message) ≡ length message
  unfolding ciphertext
  length_ciphertext_lem message = length-bytes_in ed (length message) (encipher (begun ed key nonce ad) (bits_in ed message))

  pub ciphertext-bits : (message : List ℕ) → bits_in ed (ciphertext ed key nonce ad message) ≡ encipher (begun ed key nonce ad) (bits_in ed message)
  unfolding ciphertext crypt_bytes
  ciphertext-bits message = bits_in-crypt_bytes ed (begun ed key nonce ad) true message

  pub deciphered-bits : (c : List ℕ) → bits_in ed (deciphered ed key nonce ad c) ≡ decipher (begun ed key nonce ad) (bits_in ed c)
  unfolding deciphered crypt_bytes
  deciphered-bits c = bits_in-crypt_bytes ed (begun ed key nonce ad) false c

  pub length_deciphered_lem : (c : List ℕ) → length (deciphered ed key nonce ad c) ≡ length c
  unfolding deciphered
  length_deciphered_lem c = length-bytes_in ed (length c) (decipher (begun ed key nonce ad) (bits_in ed c))

  pub deciphered-bytes : (c : List ℕ) → Bytes (deciphered ed key nonce ad c)
  unfolding deciphered
  deciphered-bytes c = bytes_in_are_bytes ed (length c) (decipher (begun ed key nonce ad) (bits_in ed c))

  pub length_tag_lem : (message : List ℕ) → length (tag ed key nonce ad message) ≡ tag_size
  unfolding tag
  length_tag_lem message = length-bytes_in ed tag_size _

  pub length-payload : (message : List ℕ) → length (payload ed key nonce ad message) ≡ length message + tag_size
  unfolding payload
  length-payload message = length-append (ciphertext ed key nonce ad message) (tag ed key nonce ad message) ∙ ap₂ ◌+◌ (length_ciphertext_lem message) (length_tag_lem message)

  pub lengths : (message : List ℕ) → Lengths ed key nonce ad message
  lengths message = record {
    string = length-authenticated ed ad message;
    ciphertext = length_ciphertext_lem message;
    tag = length_tag_lem message;
    payload = length-payload message;
  }

  -- ---- there and back

  pub deciphered-ciphertext : (message : List ℕ) → Bytes message → deciphered ed key nonce ad (ciphertext ed key nonce ad message) ≡ message
  unfolding ciphertext deciphered crypt_bytes
  deciphered-ciphertext = crypt_bytes_twice ed (begun ed key nonce ad) true false

  pub ciphertext-deciphered : (c : List ℕ) → Bytes c → ciphertext ed key nonce ad (deciphered ed key nonce ad c) ≡ c
  unfolding ciphertext deciphered crypt_bytes
  ciphertext-deciphered = crypt_bytes_twice ed (begun ed key nonce ad) false true

length-header : (ed : Edition) (ad : List ℕ) → length (header ed ad) ≡ 8 * (length (coded_length (length ad)) + length ad)
unfolding header
length-header ed ad = omega (arith, length-append (bits_in ed (coded_length (length ad))) (bits_in ed ad), length-bits_in ed (coded_length (length ad)), length-bits_in ed ad)

-- The generator where the message begins does not see the bits of the AD.
pub begun-generator : (ed : Edition) (key nonce ad ad' : List ℕ) → length ad ≡ length ad' → (begun ed key nonce ad).generator ≡ (begun ed key nonce ad').generator
unfolding begun
begun-generator ed key nonce ad ad' e =
    run-generator (initialised ed key nonce) (initialised ed key nonce) (header ed ad) (header ed ad') refl
    (length-header ed ad ∙ ap (λ (k : ℕ). 8 * (length (coded_length k) + k)) e ∙ sym (length-header ed ad'))

-- A ciphertext that is flipped, under an AD as long, hides the message flipped.
pub deciphered-flipped : (ed : Edition) (key nonce ad ad' message : List ℕ) (d : List Bool) → length ad ≡ length ad' → Flips message d
    → deciphered ed key nonce ad' (flip_in ed (ciphertext ed key nonce ad message) d) ≡ flip_in ed message d
unfolding ciphertext deciphered crypt_bytes
deciphered-flipped ed key nonce ad ad' message d e = crypt_bytes_between ed (begun ed key nonce ad) (begun ed key nonce ad') true false message d (begun-generator ed key nonce ad ad' e)
