-- Demand 3 for Grain-128a, over any tag length.
use Rattle.std.specs.Prelude.{◌≡◌, Bool, true, List, ◌++◌, ℕ, ◌*◌, ◌≤◌, length}
use Rattle.bits.specs.Bytes.{Bytes}
use Rattle.bits.specs.Strings.{zeros, places}
use Rattle.refusals.specs.declared.Refusal.TheVariants.{TagDiffers}
use Rattle.refusals.specs.Outcome.{Outcome, refused}
use Rattle.authenticator.specs.ClosedForm.{registers_at}
use Rattle.machine.specs.Laws.{register_at}
use Rattle.tagged.specs.Payload.{tag_part}
use Rattle.tagged.specs.Demands.{Verdict}
use Rattle.grain128a.specs.Bits.{bits, flip}
use Rattle.grain128a.specs.StartUp.{initialised}
use Rattle.grain128a.specs.Payload.{tag_size, pad, cut}
use Rattle.grain128a.specs.Calls.{recovered}
use Rattle.grain128a.specs.Demand2.{Legal, Makes}

-- The exclusive-or of the registers at the flipped positions, each cut as the tag is. A flipped ciphertext bit has its message bit's position, and the
-- message is where the string begins.
unfoldable pub flipped_registers : (w : ℕ) → (key nonce : List ℕ) → (in_ciphertext : List Bool) → List Bool
flipped_registers w key nonce in_ciphertext = registers_at w (λ i. cut w (register_at (initialised key nonce) i)) 0 in_ciphertext

-- The old message, and the flips: one for each bit of the ciphertext, of the tag's own bits, and of those past its length in its last byte; none and all of
-- them included.
pub record Flipped (w : ℕ) (key nonce input : List ℕ) : Type 0 where
  pub old_message : List ℕ
  pub old_payload : List ℕ
  pub genuine : Makes w key nonce old_message old_payload
  pub in_ciphertext : List Bool
  pub in_tag : List Bool
  pub past : List Bool
  pub ciphertext_flips : length in_ciphertext ≡ 8 * length old_message
  pub tag_flips : length in_tag ≡ w
  pub past_flips : length past ≡ pad w
  pub flipped_input : input ≡ flip old_payload (in_ciphertext ++ (in_tag ++ past))

-- The registers at the flipped positions add up to the tag's flips, and no bit past the tag's length is flipped, that is, set.
abbrev pub Agrees : {w : ℕ} {key nonce input : List ℕ} → Flipped w key nonce input → Type 0
Agrees {w} {key} {nonce} f = (flipped_registers w key nonce f.in_ciphertext ≡ f.in_tag) × (f.past ≡ zeros (pad w))

-- Whatever genuine payload and flips the input comes from, and given room for the message: opening accepts exactly when they agree, and returns the old
-- message with the ciphertext's flips; otherwise it is refusal 7.
abbrev pub Demand3 : (w : ℕ) → (key nonce input out : List ℕ) → Outcome → Type 0
Demand3 w key nonce input out o =
    (f : Flipped w key nonce input) → length f.old_message ≤ length out → Verdict (Agrees f) (flip f.old_message f.in_ciphertext) out o

-- Every input as long as a genuine payload is that payload with flips.
abbrev pub EveryFlip : Type 0
EveryFlip =
    (w : ℕ) (key nonce message p input : List ℕ) → Makes w key nonce message p → Bytes input → length input ≡ length p
    → (f : Flipped w key nonce input) × (f.old_message ≡ message) × (f.old_payload ≡ p)

-- Whatever the input, all else legal and with room: a set bit past the tag's length is refusal 7.
abbrev pub PastTag : (w : ℕ) → (key nonce input out : List ℕ) → Outcome → Type 0
PastTag w key nonce input out o =
    Legal w key nonce (recovered w key nonce input) → tag_size w ≤ length input → length (recovered w key nonce input) ≤ length out
    → (i : ℕ) → w ≤ i → places (bits (tag_part (tag_size w) input)) i ≡ true → o ≡ refused TagDiffers out
