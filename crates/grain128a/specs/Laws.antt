-- Laws of Grain-128a: which pre-output is what, the lengths of every piece, and what the authenticated string tells.
use Rattle.std.specs.Prelude.{◌≡◌, Bool, false, List, [], ◌∷◌, ◌++◌, ℕ, ◌+◌, ◌*◌, ◌≤◌, ◌<◌, length, get_or}
use Rattle.bits.specs.Bit.{◌⊻◌}
use Rattle.bits.specs.Bytes.{Bytes}
use Rattle.bits.specs.Strings.{shift}
use Rattle.machine.specs.Machine.{keystream_bit, run}
use Rattle.machine.specs.Laws.{Sized}
use Rattle.key.specs.Sizes.{key_size, nonce_size}
use Rattle.grain128a.specs.Bits.{bits}
use Rattle.grain128a.specs.StartUp.{warmed, preoutput_of, initialised}
use Rattle.grain128a.specs.Payload.{authenticated, ciphertext, tag_size, pad, tag_bits, tag, payload, with_keystream}

-- y_i of the source document: the pre-output of clock i after start-up.
abbrev pub y : (key nonce : List ℕ) → (i : ℕ) → Bool
y key nonce = preoutput_of (warmed key nonce)

-- The accumulator's place j is y_j, the register's y_(32 + j). With i bits of the string behind it, the machine gives y_(64 + 2i) as the keystream
-- bit, and at the next bit its register takes y_(64 + 2i + 1). Message bit j is enciphered with y_(64 + 2j), without authentication with y_j.
pub record Preoutputs (key nonce : List ℕ) : Type 0 where
  pub accumulator : (j : ℕ) → j < 32 → get_or (initialised key nonce).authenticator.accumulator j false ≡ y key nonce j
  pub register : (j : ℕ) → j < 32 → get_or (initialised key nonce).authenticator.register j false ≡ y key nonce (32 + j)
  pub keystream : (s : List Bool) → keystream_bit (run (initialised key nonce) s) ≡ y key nonce (64 + 2 * length s)
  pub takes : (s : List Bool) (m : Bool)
      → (run (initialised key nonce) (s ++ (m ∷ []))).authenticator.register
      ≡ shift (run (initialised key nonce) s).authenticator.register (y key nonce (64 + 2 * length s + 1))
  pub enciphered : (message : List ℕ) (j : ℕ) → j < 8 * length message → get_or (bits (ciphertext key nonce message)) j false ≡ get_or (bits message) j false ⊻ y key nonce (64 + 2 * j)
  pub unauthenticated : (message : List ℕ) (j : ℕ) → j < 8 * length message → get_or (bits (with_keystream key nonce message)) j false ≡ get_or (bits message) j false ⊻ y key nonce j

-- Start-up makes a state whose accumulator and register have 32 places.
abbrev pub StartsSized : Type 0
StartsSized = (key nonce : List ℕ) → length key ≡ key_size → length nonce ≡ nonce_size → Sized 32 (initialised key nonce)

pub record Lengths (w : ℕ) (key nonce message : List ℕ) : Type 0 where
  pub string : length (authenticated message) ≡ 8 * length message + 1
  pub ciphertext : length (ciphertext key nonce message) ≡ length message
  pub tag_bits : length key ≡ key_size → length nonce ≡ nonce_size → w ≤ 32 → length (tag_bits w key nonce message) ≡ w
  pub tag : length (tag w key nonce message) ≡ tag_size w
  pub payload : length (payload w key nonce message) ≡ length message + tag_size w
  pub with_keystream : length (with_keystream key nonce message) ≡ length message

-- A tag's bits take the fewest whole bytes: fewer than eight bits are left in the last.
abbrev pub FewestBytes : Type 0
FewestBytes = (w : ℕ) → (w + pad w ≡ 8 * tag_size w) × (pad w < 8)

-- Messages that make the same authenticated string are the same.
abbrev pub Distinct : Type 0
Distinct = (message message' : List ℕ) → Bytes message → Bytes message' → authenticated message ≡ authenticated message' → message ≡ message'
