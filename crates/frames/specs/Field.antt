-- A sealed data field (document 02, C-11): M in one byte, the ciphertext, the tag, then zeros up to the smallest coded length that holds M + 9.
use Rattle.std.specs.Prelude.{◌≡◌, List, [], ◌∷◌, ◌++◌, ℕ, ◌+◌, ◌-◌, ◌/◌, ◌%◌, ◌^◌, ◌≤◌, length, replicate}
use Rattle.machine.specs.declared.edition.Edition.{Edition}
use Rattle.payload.specs.Payload.{payload}
use Rattle.frame_checks.specs.Layout.{message_limit, overhead, field_code, field_size}

-- The AD of a frame: the identifier in four bytes, high byte first, then the length code as a byte.
abbrev pub frame_ad : (identifier code : ℕ) → List ℕ
frame_ad identifier code =
    identifier / 2 ^ 24 % 256 ∷ identifier / 2 ^ 16 % 256 ∷ identifier / 2 ^ 8 % 256 ∷ identifier % 256 ∷ code % 256 ∷ []

abbrev pub AdExample : Type 0
AdExample = frame_ad 0x12345678 9 ≡ 0x12 ∷ 0x34 ∷ 0x56 ∷ 0x78 ∷ 0x09 ∷ []

-- The field that a message makes.
unfoldable pub data_field : Edition → (key nonce : List ℕ) → (identifier : ℕ) → (message : List ℕ) → List ℕ
data_field e key nonce identifier message =
    (length message ∷ payload e key nonce (frame_ad identifier (field_code (length message))) message)
    ++ replicate (field_size (length message) - (length message + overhead)) 0

-- It has the size of its code.
abbrev pub Sized : Type 0
Sized =
    (e : Edition) (key nonce : List ℕ) (identifier : ℕ) (message : List ℕ) → length message ≤ message_limit
    → length (data_field e key nonce identifier message) ≡ field_size (length message)
