-- Demand 3 on the definitions.
use Rattle.std.specs.Prelude.{◌≡◌, Bool, List, ◌++◌, ℕ, ◌*◌, ◌≤◌, length}
use Rattle.bits.specs.Bytes.{Bytes}
use Rattle.refusals.specs.Outcome.{Outcome}
use Rattle.tagged.specs.Demands as tagged
use Rattle.machine.specs.declared.edition.Edition.{Edition}
use Rattle.startup.specs.Editions.{flip_in}
use Rattle.payload.specs.AuthenticatedString.{authenticated}
use Rattle.payload.specs.Laws.{flipped_registers}
use Rattle.grain128aead.specs.Sizes.{ad_limit}
use Rattle.grain128aead.specs.Demand2.{Makes}

-- Pairs of AD and message, the AD of legal size, that make the same authenticated string are the same pair.
abbrev pub Distinct : Type 0
Distinct =
    (e : Edition) (ad message ad' message' : List ℕ) → Bytes ad → Bytes message → Bytes ad' → Bytes message'
    → length ad ≤ ad_limit → length ad' ≤ ad_limit
    → authenticated e ad message ≡ authenticated e ad' message' → (ad ≡ ad') × (message ≡ message')

-- The old AD and message, and the flips: one for each bit of the AD, of the ciphertext and of the tag, none and all of them included.
pub record Flipped (e : Edition) (key nonce ad input : List ℕ) : Type 0 where
  pub old_ad : List ℕ
  pub old_message : List ℕ
  pub old_payload : List ℕ
  pub genuine : Makes e key nonce old_ad old_message old_payload
  pub in_ad : List Bool
  pub in_ciphertext : List Bool
  pub in_tag : List Bool
  pub ad_flips : length in_ad ≡ 8 * length old_ad
  pub ciphertext_flips : length in_ciphertext ≡ 8 * length old_message
  pub tag_flips : length in_tag ≡ 64
  pub flipped_ad : ad ≡ flip_in e old_ad in_ad
  pub flipped_input : input ≡ flip_in e old_payload (in_ciphertext ++ in_tag)

-- The registers at the flipped data positions add up to the tag's flips.
abbrev pub Agrees : {e : Edition} {key nonce ad input : List ℕ} → Flipped e key nonce ad input → Type 0
Agrees {e} {key} {nonce} f = flipped_registers e key nonce f.old_ad f.in_ad f.in_ciphertext ≡ f.in_tag

-- What opening does by a condition: it accepts exactly when the condition holds, and then returns the message; otherwise it is refusal 7,
-- and the output is as lent.
abbrev pub Verdict : (condition : Type 0) → (message out : List ℕ) → Outcome → Type 0
Verdict = tagged.Verdict

-- Whatever genuine payload and flips the AD and the input come from, and given room for the message: opening goes by whether the registers
-- add up to the tag's flips, and returns the old message with the ciphertext's flips.
abbrev pub Demand3 : Edition → (key nonce ad input out : List ℕ) → Outcome → Type 0
Demand3 e key nonce ad input out o =
    (f : Flipped e key nonce ad input) → length f.old_message ≤ length out
    → Verdict (Agrees f) (flip_in e f.old_message f.in_ciphertext) out o
