-- Substitution: an AD and an input of any lengths, opened under the key and the nonce of a genuine payload (document 02, C-23).
use Rattle.std.specs.Prelude.{◌≡◌, Bool, List, ℕ, ◌≤◌, length}
use Rattle.bits.specs.Bytes.{Bytes}
use Rattle.bits.specs.Strings.{◌⊞◌, zeros}
use Rattle.refusals.specs.Outcome.{Outcome}
use Rattle.machine.specs.declared.edition.Edition.{Edition}
use Rattle.startup.specs.Editions.{bits_in, flip_in}
use Rattle.payload.specs.Sizes.{tag_size}
use Rattle.payload.specs.Payload.{tag_part}
use Rattle.payload.specs.Laws.{flipped_registers}
use Rattle.payload.specs.TwoTags.{differing_registers}
use Rattle.grain128aead.specs.Calls.{recovered}
use Rattle.grain128aead.specs.Demand2.{Legal, Makes}
use Rattle.grain128aead.specs.Demand3.{Flipped, Verdict}

-- A genuine payload under a key and a nonce, and the AD and the message that make it.
pub record Genuine (e : Edition) (key nonce : List ℕ) : Type 0 where
  pub ad : List ℕ
  pub message : List ℕ
  pub payload : List ℕ
  pub makes : Makes e key nonce ad message payload

-- The registers at all positions where the strings of the genuine payload and of what is opened differ, the shorter one continued with
-- zeros, added up.
abbrev pub differing : {e : Edition} {key nonce : List ℕ} → Genuine e key nonce → (ad input : List ℕ) → List Bool
differing {e} {key} {nonce} g ad input = differing_registers e key nonce g.ad g.message ad (recovered e key nonce ad input)

-- The genuine payload's tag, put under this AD and ciphertext, is accepted exactly when these registers add up to zero; any tag, exactly when
-- they add up to the sum of the two tags.
pub record Substituted {e : Edition} {key nonce : List ℕ} (g : Genuine e key nonce) (ad input out : List ℕ) (o : Outcome) : Type 0 where
  pub same_tag : tag_part input ≡ tag_part g.payload → Verdict (differing g ad input ≡ zeros 64) (recovered e key nonce ad input) out o
  pub any_tag : length (tag_part input) ≡ tag_size
      → Verdict (differing g ad input ≡ bits_in e (tag_part g.payload) ⊞ bits_in e (tag_part input)) (recovered e key nonce ad input) out o

-- Whatever genuine payload it is put in place of, the AD and the message legal too, and given room for the message.
abbrev pub Substitution : Edition → (key nonce ad input out : List ℕ) → Outcome → Type 0
Substitution e key nonce ad input out o =
    (g : Genuine e key nonce) → Legal key nonce ad (recovered e key nonce ad input) → length (recovered e key nonce ad input) ≤ length out
    → Substituted g ad input out o

-- The genuine payload of demand 3.
abbrev pub genuine : {e : Edition} {key nonce ad input : List ℕ} → Flipped e key nonce ad input → Genuine e key nonce
genuine f = record { ad = f.old_ad; message = f.old_message; payload = f.old_payload; makes = f.genuine }

-- Demand 3 is the case of equal lengths. Both sides of its condition are those of the condition on any tag, and the message is the same.
pub record EqualLengths {e : Edition} {key nonce ad input : List ℕ} (f : Flipped e key nonce ad input) : Type 0 where
  pub registers : flipped_registers e key nonce f.old_ad f.in_ad f.in_ciphertext ≡ differing (genuine f) ad input
  pub tags : f.in_tag ≡ bits_in e (tag_part f.old_payload) ⊞ bits_in e (tag_part input)
  pub message : flip_in e f.old_message f.in_ciphertext ≡ recovered e key nonce ad input

-- Every AD and every input of the lengths of the genuine ones are these with bits flipped.
abbrev pub EveryFlip : Type 0
EveryFlip =
    (e : Edition) (key nonce ad input : List ℕ) (g : Genuine e key nonce) → Bytes ad → Bytes input
    → length ad ≡ length g.ad → length input ≡ length g.payload
    → (f : Flipped e key nonce ad input) × (genuine f ≡ g)
