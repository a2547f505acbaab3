-- Bits flipped in the filler, and in M.
-- Assumes nothing.
use mathlib.Core.Path.{◌≡◌, refl, sym, ap, ◌∙◌, subst}
use mathlib.Core.Logic.{◌↔◌}
use mathlib.Core.Bool.{Bool, true, false, true≢false, not, cond}
use mathlib.Core.List.{List, [], ◌∷◌, ◌++◌}
use Prim.Native.Nat.{ℕ, suc, ◌+◌, ◌-◌, ◌*◌, ◌≤◌}
use native.Mathlib.Omega.{arith}
use borrow.Author.Tests.{lt-ltb, le-ltb}
use lib.Dec.{ltb}
use lib.ListN.{length, drop, replicate, length-replicate}
use Rattle.bits.specs.Bytes.{Bytes}
use Rattle.bits.specs.Strings.{◌⊞◌, zeros, places}
use Rattle.bits.proofs.Slides.{places-zeros}
use Rattle.bits.proofs.Sum.{sum_self}
use Rattle.refusals.specs.declared.Refusal.TheVariants.{TagDiffers}
use Rattle.refusals.specs.Outcome.{Outcome, refused, success}
use Rattle.refusals.specs.Demand1.{Accepts}
use Rattle.refusals.proofs.Demand1.{count-not-refused}
use Rattle.machine.specs.declared.edition.Edition.{Edition}
use Rattle.startup.specs.Editions.{bits_in, flip_in}
use Rattle.startup.proofs.Order.{length-flip_in, sum-flip_in}
use Rattle.grain128aead.specs.Demand3.{Verdict}
use Rattle.frame_checks.specs.Layout.{overhead, field_size, announced, sealed_part, filler, zero_bytes}
use Rattle.frame_checks.specs.Rows.{wrong_length, filler_not_zero}
use Rattle.frame_checks.proofs.Rows.{Announces, row_announces, announces_row}
use Rattle.frame_checks.proofs.ZeroBytes.{zero_bytes_lem, zeros-behind, zeros_are}
use Rattle.frames.specs.Calls.{recovered, wrong_tag, read}
use Rattle.frames.specs.Demand2.{Makes, Demand2}
use Rattle.frames.specs.Demand3.{Genuine}
use Rattle.frames.specs.Damage.{FillerFlips, Fits, ZerosBehind, Altered, LengthFlips}
use Rattle.frames.proofs.Field.{fill, sealed, made-announced, made-joined, made-sealed, made-filler, like_coded, like_announces}
use Rattle.frames.proofs.Settled.{by_field, read-field}
use Rattle.frames.proofs.Demand2.{demand2}
use Rattle.frames.proofs.Flipped.{behind-announced, behind-filler, behind-length, in_length}

-- A test that is not false is true.
otherwise : (b : Bool) → (b ≡ false → ⊥) → b ≡ true
otherwise true h = refl
otherwise false h = absurd (h refl)

unless : (b : Bool) → (b ≡ true → ⊥) → b ≡ false
unless true h = absurd (h refl)
unless false h = refl

-- Zeros with a bit flipped are not zeros.
flipped-zeros : (e : Edition) (n : ℕ) (d : List Bool) → length d ≡ 8 * n → (i : ℕ) → places d i ≡ true → zero_bytes (flip_in e (replicate n 0) d) ≡ true → ⊥
flipped-zeros e n d long i one zero = true≢false (sym one ∙ ap (λ (t : List Bool). places t i) none ∙ places-zeros [] (length (bits_in e z)) i)
  where
    z : List ℕ
    z = replicate n 0

    size : length z ≡ n
    size = length-replicate {A = ℕ} n 0

    same : flip_in e z d ≡ z
    same = zero_bytes_lem (flip_in e z d) zero ∙ ap (λ (k : ℕ). replicate k 0) (length-flip_in e z d ∙ size)

    none : d ≡ zeros (length (bits_in e z))
    none = sym (sum-flip_in e z d (long ∙ ap (λ (k : ℕ). 8 * k) (sym size))) ∙ ap (λ (t : List ℕ). bits_in e z ⊞ bits_in e t) same ∙ sum_self (bits_in e z)

pub filler_flips_lem : (e : Edition) (key nonce : List ℕ) (identifier code : ℕ) (field out : List ℕ) → FillerFlips e key nonce identifier code field out (read e key nonce identifier code field out)
filler_flips_lem e key nonce identifier code field out old d f long_d long_f flipped i one =
    read-field e key nonce identifier code field out old.makes.legal.common (like_coded old.makes same) (announces_row code field (like_announces old.makes same its)) (ap not damaged) refl
  where
    filled : ℕ
    filled = field_size (length old.message) - (length old.message + overhead)

    same : length field ≡ length old.field
    same = behind-length old d f long_d flipped

    its : announced field ≡ length old.message
    its = behind-announced old d f long_d flipped

    damaged : zero_bytes (filler field) ≡ false
    damaged =
        unless (zero_bytes (filler field))
        (λ h. flipped-zeros e filled f (long_f ∙ ap (λ (t : List ℕ). 8 * length t) (made-filler old.makes) ∙ ap (λ (k : ℕ). 8 * k) (length-replicate {A = ℕ} filled 0)) i one (sym (ap zero_bytes (behind-filler old d f long_d flipped)) ∙ h))

module _ {e : Edition} {key nonce : List ℕ} {identifier code : ℕ} (old : Genuine e key nonce identifier code) (field out : List ℕ)
    (altered : field ≡ announced field ∷ (sealed old.makes ++ fill old.makes)) where
  same : length field ≡ length old.field
  same = ap length altered ∙ ap length (sym (made-joined old.makes))

  -- What counts as filler.
  counts : zero_bytes (filler field) ≡ zero_bytes (drop (announced field + 8) (sealed_part old.field))
  counts =
      let a = announced field in
      let s = sealed old.makes in
      let z = fill old.makes in
      let next : a + 9 ≡ suc (a + 8) = omega arith in
      ap (λ (t : List ℕ). zero_bytes (drop (a + 9) t)) altered ∙ ap (λ (k : ℕ). zero_bytes (drop k (a ∷ (s ++ z)))) next
      ∙ zeros-behind (a + 8) s z (zeros_are (field_size (length old.message) - (length old.message + overhead))) ∙ ap (λ (t : List ℕ). zero_bytes (drop (a + 8) t)) (sym (made-sealed old.makes))

  fits_announces : Fits code (announced field) → Announces code field
  fits_announces h = record { some = λ none. omega (arith, none, ap length altered); message_fits = h.0; smallest = sym h.1 }

  announces_fits : Announces code field → Fits code (announced field)
  announces_fits a = (a.message_fits, sym a.smallest)

  -- The rows on the field, one after the other.
  by : {wrong not_zero no_room : Bool} → wrong_length code field ≡ wrong → filler_not_zero field ≡ not_zero → ltb (length out) (announced field) ≡ no_room
      → read e key nonce identifier code field out ≡ by_field e key nonce identifier code field out wrong not_zero no_room
  by = read-field e key nonce identifier code field out old.makes.legal.common (like_coded old.makes same)

  -- Where none of them applies, the tag decides, and by demand 2.
  decides : Bytes field → Fits code (announced field) → ZerosBehind old (announced field) → announced field ≤ length out
      → Verdict ((message : List ℕ) × Makes e key nonce identifier code message field) (recovered e key nonce identifier code field) out (read e key nonce identifier code field out)
  decides b fits behind room = go (wrong_tag e key nonce identifier code field) (by (announces_row code field (fits_announces fits)) (ap not (counts ∙ behind)) (le-ltb (length out) (announced field) room))
    where
      made : Type 0
      made = (message : List ℕ) × Makes e key nonce identifier code message field

      d2 : Demand2 e key nonce identifier code field out (read e key nonce identifier code field out)
      d2 = demand2 e key nonce identifier code field out b

      accepts : Accepts (read e key nonce identifier code field out) ↔ made
      accepts = (λ a. let h = d2.accepts.0 a in (h.0, h.1), λ h. d2.accepts.1 (h.0, h.1, subst (λ (n : ℕ). n ≤ length out) (made-announced h.1) room))

      go : (differs : Bool)
          → read e key nonce identifier code field out ≡ cond differs (refused TagDiffers out) (success (recovered e key nonce identifier code field) out)
          → Verdict made (recovered e key nonce identifier code field) out (read e key nonce identifier code field out)
      go true is = record {
        accepts = accepts;
        returns = λ h. absurd (count-not-refused (accepts.1 h).1 (ap (λ (o : Outcome). o.answer) is));
        refuses = λ no. is;
      }
      go false is = record {
        accepts = accepts;
        returns = λ h. is;
        refuses = λ no. absurd (no (accepts.0 (length (recovered e key nonce identifier code field), ap (λ (o : Outcome). o.answer) is)));
      }

  altered_length : Bytes field → Altered old (announced field) field out (read e key nonce identifier code field out)
  altered_length b = record {
    misfit = λ no. by (otherwise (wrong_length code field) (λ h. no (announces_fits (row_announces code field h)))) refl refl;
    not_zero = λ fits no. by (announces_row code field (fits_announces fits)) (ap not (unless (zero_bytes (filler field)) (λ h. no (sym counts ∙ h)))) refl;
    no_room = λ fits behind short. by (announces_row code field (fits_announces fits)) (ap not (counts ∙ behind)) (lt-ltb (length out) (announced field) short);
    decided = decides b;
  }

pub length_flips_lem : (e : Edition) (key nonce : List ℕ) (identifier code : ℕ) (field out : List ℕ) → Bytes field → LengthFlips e key nonce identifier code field out (read e key nonce identifier code field out)
length_flips_lem e key nonce identifier code field out b old d eight flipped = altered_length old field out (in_length old field d eight flipped) b
