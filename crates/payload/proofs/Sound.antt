-- The cipher under a key, a nonce and an AD is one with a tag, and so are the two parts of a sealed input.
-- Assumes nothing.
use mathlib.Core.List.{List}
use Prim.Native.Nat.{ℕ}
use Rattle.tagged.specs.Cipher.{Sound}
use Rattle.tagged.proofs.Parts as tagged
use Rattle.machine.specs.declared.edition.Edition.{Edition}
use Rattle.payload.specs.Sizes.{tag_size}
use Rattle.payload.specs.Payload.{cipher}
use Rattle.payload.specs.Laws.{Parts}
use Rattle.payload.proofs.Payload.{length_ciphertext_lem, length_deciphered_lem, length_tag_lem, deciphered-bytes, deciphered-ciphertext, ciphertext-deciphered}

pub sound : (ed : Edition) (key nonce ad : List ℕ) → Sound (cipher ed key nonce ad)
sound ed key nonce ad = record {
  length_ciphertext = length_ciphertext_lem ed key nonce ad;
  length_deciphered = length_deciphered_lem ed key nonce ad;
  length_tag = length_tag_lem ed key nonce ad;
  is_bytes = deciphered-bytes ed key nonce ad;
  back = deciphered-ciphertext ed key nonce ad;
  forth = ciphertext-deciphered ed key nonce ad;
}

pub parts : (input : List ℕ) → Parts input
parts = tagged.parts tag_size
