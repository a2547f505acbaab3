-- Payloads of Grain-128a: the lengths of their pieces, and that each way undoes the other.
-- Assumes nothing.
use mathlib.Core.Path.{◌≡◌, refl, sym, ap, ap₂, ◌∙◌}
use mathlib.Core.Bool.{Bool, true, false}
use mathlib.Core.List.{List, [], ◌∷◌, ◌++◌}
use Prim.Native.Nat.{ℕ, ◌+◌, ◌-◌, ◌*◌, ◌≤◌}
use native.Mathlib.Omega.{arith}
use lib.Dec.{lit<}
use lib.ListN.{length, take, length-append, length-drop, length-replicate}
use lib.Seq.{take_at}
use Rattle.bits.specs.Strings.{zeros}
use Rattle.machine.specs.declared.edition.Edition.TheVariants.{First}
use Rattle.machine.specs.Machine.{run}
use Rattle.machine.proofs.Machine.{run-sized}
use Rattle.key.specs.Sizes.{key_size, nonce_size}
use Rattle.startup.proofs.Order.{length-bits_in, length-bytes_in, bytes_in_are_bytes, bits_in-bytes_in, bits_in_injective, length-flip_in}
use Rattle.strings.proofs.OverBytes.{crypt_bytes}
use Rattle.strings.proofs.ByteStrings.{crypt_bytes_twice}
use Rattle.tagged.specs.Cipher.{Sound}
use Rattle.grain128a.specs.Bits.{bits}
use Rattle.grain128a.specs.StartUp.{initialised}
use Rattle.grain128a.specs.Payload.{authenticated, ciphertext, deciphered, tag_size, pad, tag_bits, tag, cipher, payload, with_keystream}
use Rattle.grain128a.specs.Laws.{Lengths, FewestBytes, Distinct}
use Rattle.grain128a.proofs.StartUp.{initialised-sized}

pub sound : (w : ℕ) (key nonce : List ℕ) → Sound (cipher w key nonce)
unfolding cipher ciphertext deciphered tag crypt_bytes
sound w key nonce = record {
  length_ciphertext = λ m. length-bytes_in First (length m) _;
  length_deciphered = λ x. length-bytes_in First (length x) _;
  length_tag = λ m. length-bytes_in First (tag_size w) _;
  is_bytes = λ x. bytes_in_are_bytes First (length x) _;
  back = crypt_bytes_twice First (initialised key nonce) true false;
  forth = crypt_bytes_twice First (initialised key nonce) false true;
}

module _ (w : ℕ) (key nonce : List ℕ) (k : length key ≡ key_size) (n : length nonce ≡ nonce_size) (few : w ≤ 32) where
  pub length-tag_bits : (message : List ℕ) → length (tag_bits w key nonce message) ≡ w
  unfolding tag_bits
  length-tag_bits message =
      let a = (run-sized 32 (initialised key nonce) (authenticated message) (lit< tt) (initialised-sized key nonce k n)).authenticator.accumulator in
      omega (arith, a, length-drop (32 - w) (run (initialised key nonce) (authenticated message)).authenticator.accumulator)

  -- The tag and the zeros past its length fill its bytes, so that these have those bits.
  pub length_padded : (message : List ℕ) → length (tag_bits w key nonce message ++ zeros (pad w)) ≡ 8 * tag_size w
  length_padded message =
      omega (arith, length-append (tag_bits w key nonce message) (zeros (pad w)), length-tag_bits message, length-replicate (pad w) false)

  pub bits-tag : (message : List ℕ) → bits (tag w key nonce message) ≡ tag_bits w key nonce message ++ zeros (pad w)
  unfolding tag
  bits-tag message = bits_in-bytes_in First (tag_size w) (tag_bits w key nonce message ++ zeros (pad w)) (length_padded message)

length-authenticated : (message : List ℕ) → length (authenticated message) ≡ 8 * length message + 1
unfolding authenticated
length-authenticated message = length-append (bits message) (true ∷ []) ∙ ap (λ (n : ℕ). n + 1) (length-bits_in First message)

pub lengths : (w : ℕ) (key nonce message : List ℕ) → Lengths w key nonce message
unfolding cipher payload with_keystream
lengths w key nonce message =
    let s = sound w key nonce in
    record {
      string = length-authenticated message;
      ciphertext = s.length_ciphertext message;
      tag_bits = λ k n few. length-tag_bits w key nonce k n few message;
      tag = s.length_tag message;
      payload = length-append (ciphertext key nonce message) (tag w key nonce message) ∙ ap₂ ◌+◌ (s.length_ciphertext message) (s.length_tag message);
      with_keystream = length-flip_in First message _;
    }

pub fewest_bytes : FewestBytes
fewest_bytes w = (omega arith, omega arith)

-- What stands before the final 1 is the message.
pub distinct : Distinct
unfolding authenticated
distinct message message' b b' e = bits_in_injective First message message' b b' (same-front (bits message) (bits message') (omega (arith, ap length e, length-append (bits message) (true ∷ []), length-append (bits message') (true ∷ []))) e)
  where
    same-front : (s t : List Bool) → length s ≡ length t → s ++ (true ∷ []) ≡ t ++ (true ∷ []) → s ≡ t
    same-front s t l j = sym (take_at s (true ∷ []) (length s) refl) ∙ ap (take (length s)) j ∙ take_at t (true ∷ []) (length s) (sym l)
