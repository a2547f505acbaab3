-- Demand 3 for frames: their strings tell identifiers and messages apart; flips in the ciphertext and in the tag of a genuine frame.
use Rattle.std.specs.Prelude.{◌≡◌, Bool, List, ◌++◌, ℕ, ◌*◌, ◌≤◌, ◌<◌, length}
use Rattle.bits.specs.Bytes.{Bytes}
use Rattle.bits.specs.Strings.{zeros}
use Rattle.refusals.specs.Outcome.{Outcome}
use Rattle.machine.specs.declared.edition.Edition.{Edition}
use Rattle.startup.specs.Editions.{flip_in}
use Rattle.payload.specs.AuthenticatedString.{authenticated}
use Rattle.payload.specs.Laws.{flipped_registers}
use Rattle.grain128aead.specs.Demand3.{Verdict}
use Rattle.frame_checks.specs.Layout.{identifier_limit, field_code, filler}
use Rattle.frames.specs.Field.{frame_ad}
use Rattle.frames.specs.Demand2.{Makes}

-- The string that the tag of a frame is over.
abbrev pub frame_string : Edition → (identifier : ℕ) → (message : List ℕ) → List Bool
frame_string e identifier message = authenticated e (frame_ad identifier (field_code (length message))) message

-- Pairs of a legal identifier and a message that make the same string are the same pair.
abbrev pub Distinct : Type 0
Distinct =
    (e : Edition) (identifier identifier' : ℕ) (message message' : List ℕ) → Bytes message → Bytes message'
    → identifier < identifier_limit → identifier' < identifier_limit
    → frame_string e identifier message ≡ frame_string e identifier' message' → (identifier ≡ identifier') × (message ≡ message')

-- A genuine frame under a key, a nonce, an identifier and a code.
pub record Genuine (e : Edition) (key nonce : List ℕ) (identifier code : ℕ) : Type 0 where
  pub message : List ℕ
  pub field : List ℕ
  pub makes : Makes e key nonce identifier code message field

-- A genuine frame, and the flips: one for each bit of its ciphertext and of its tag, none and all of them included. M and the filler are as made.
pub record Flipped (e : Edition) (key nonce : List ℕ) (identifier code : ℕ) (field : List ℕ) : Type 0 where
  pub old : Genuine e key nonce identifier code
  pub in_ciphertext : List Bool
  pub in_tag : List Bool
  pub ciphertext_flips : length in_ciphertext ≡ 8 * length old.message
  pub tag_flips : length in_tag ≡ 64
  pub flipped : field ≡ flip_in e old.field (zeros 8 ++ ((in_ciphertext ++ in_tag) ++ zeros (8 * length (filler old.field))))

-- The registers at the flipped data positions, of which none is in the AD, add up to the tag's flips.
abbrev pub Agrees : {e : Edition} {key nonce : List ℕ} {identifier code : ℕ} {field : List ℕ} → Flipped e key nonce identifier code field → Type 0
Agrees {e} {key} {nonce} {identifier} {code} f = flipped_registers e key nonce (frame_ad identifier code) (zeros 40) f.in_ciphertext ≡ f.in_tag

-- Given room for the message, reading goes by whether they do, and returns the old message with the ciphertext's flips.
abbrev pub Demand3 : Edition → (key nonce : List ℕ) → (identifier code : ℕ) → (field out : List ℕ) → Outcome → Type 0
Demand3 e key nonce identifier code field out o =
    (f : Flipped e key nonce identifier code field) → length f.old.message ≤ length out
    → Verdict (Agrees f) (flip_in e f.old.message f.in_ciphertext) out o
