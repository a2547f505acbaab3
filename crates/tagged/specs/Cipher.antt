-- A cipher that puts a tag behind a ciphertext.
use Rattle.std.specs.Prelude.{◌≡◌, List, ℕ, length}
use Rattle.bits.specs.Bytes.{Bytes}

-- Such a cipher under a key, a nonce and all else that it takes beside the message. The size is the bytes of a tag.
pub record Cipher : Type 0 where
  pub size : ℕ
  pub ciphertext : (message : List ℕ) → List ℕ
  pub deciphered : (ciphertext : List ℕ) → List ℕ
  pub tag : (message : List ℕ) → List ℕ

-- As many bytes come out as go in, a tag has its size, and each way undoes the other.
pub record Sound (c : Cipher) : Type 0 where
  pub length_ciphertext : (m : List ℕ) → length (c.ciphertext m) ≡ length m
  pub length_deciphered : (x : List ℕ) → length (c.deciphered x) ≡ length x
  pub length_tag : (m : List ℕ) → length (c.tag m) ≡ c.size
  pub is_bytes : (x : List ℕ) → Bytes (c.deciphered x)
  pub back : (m : List ℕ) → Bytes m → c.deciphered (c.ciphertext m) ≡ m
  pub forth : (x : List ℕ) → Bytes x → c.ciphertext (c.deciphered x) ≡ x
