-- What reading answers where bits of a genuine frame are flipped in its filler or in M (document 02, C-11).
use Rattle.std.specs.Prelude.{◌≡◌, Bool, true, List, ◌++◌, ℕ, ◌+◌, ◌-◌, ◌*◌, ◌≤◌, ◌<◌, length, drop}
use Rattle.bits.specs.Strings.{zeros, places}
use Rattle.refusals.specs.declared.Refusal.TheVariants.{OutputTooShort, WrongMessageLength, FillerNotZero}
use Rattle.refusals.specs.Outcome.{Outcome, refused}
use Rattle.machine.specs.declared.edition.Edition.{Edition}
use Rattle.startup.specs.Editions.{flip_in}
use Rattle.grain128aead.specs.Demand3.{Verdict}
use Rattle.frame_checks.specs.Layout.{message_limit, field_code, announced, sealed_part, filler, zero_bytes}
use Rattle.frames.specs.Calls.{recovered}
use Rattle.frames.specs.Demand2.{Makes}
use Rattle.frames.specs.Demand3.{Genuine}

-- Whatever else is flipped behind M: a flipped bit in the filler is refusal 12.
abbrev pub FillerFlips : Edition → (key nonce : List ℕ) → (identifier code : ℕ) → (field out : List ℕ) → Outcome → Type 0
FillerFlips e key nonce identifier code field out o =
    (old : Genuine e key nonce identifier code) (in_sealed in_filler : List Bool)
    → length in_sealed ≡ 8 * length (sealed_part old.field) → length in_filler ≡ 8 * length (filler old.field)
    → field ≡ flip_in e old.field (zeros 8 ++ (in_sealed ++ in_filler))
    → (i : ℕ) → places in_filler i ≡ true
    → o ≡ refused FillerNotZero out

-- A length M that the code fits.
abbrev pub Fits : (code m : ℕ) → Type 0
Fits code m = (m ≤ message_limit) × (field_code m ≡ code)

-- Under a length m of a genuine frame's field, what counts as filler is zero: the bytes of ciphertext and tag behind the first m + 8 are. Where m
-- is the true length or more there are none, so that this always holds.
abbrev pub ZerosBehind : {e : Edition} {key nonce : List ℕ} {identifier code : ℕ} → Genuine e key nonce identifier code → (m : ℕ) → Type 0
ZerosBehind old m = zero_bytes (drop (m + 8) (sealed_part old.field)) ≡ true

-- With m for M: refusal 11 where it does not fit the code; else 12 where what then counts as filler is not zero; else 6 where there is no
-- room for m bytes; else the tag decides: it is accepted exactly when some message makes this very field, and otherwise it is refusal 7.
pub record Altered {e : Edition} {key nonce : List ℕ} {identifier code : ℕ} (old : Genuine e key nonce identifier code) (m : ℕ) (field out : List ℕ) (o : Outcome) : Type 0 where
  pub misfit : ¬ Fits code m → o ≡ refused WrongMessageLength out
  pub not_zero : Fits code m → ¬ ZerosBehind old m → o ≡ refused FillerNotZero out
  pub no_room : Fits code m → ZerosBehind old m → length out < m → o ≡ refused OutputTooShort out
  pub decided : Fits code m → ZerosBehind old m → m ≤ length out
      → Verdict ((message : List ℕ) × Makes e key nonce identifier code message field) (recovered e key nonce identifier code field) out o

-- Whatever bits of M are flipped.
abbrev pub LengthFlips : Edition → (key nonce : List ℕ) → (identifier code : ℕ) → (field out : List ℕ) → Outcome → Type 0
LengthFlips e key nonce identifier code field out o =
    (old : Genuine e key nonce identifier code) (in_length : List Bool) → length in_length ≡ 8
    → field ≡ flip_in e old.field (in_length ++ zeros (8 * (length old.field - 1)))
    → Altered old (announced field) field out o
