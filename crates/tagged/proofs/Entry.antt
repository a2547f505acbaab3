-- What entry points owe beside the walk of their code: the output after sealing, the tag as a number, and the outcomes of opening.
-- Assumes nothing.
use mathlib.Core.Path.{◌≡◌, refl, sym, ap, ap₂, ◌∙◌}
use mathlib.Core.Bool.{Bool}
use mathlib.Core.List.{List, ◌++◌, append_assoc}
use Prim.Native.Nat.{ℕ, ◌+◌, ◌-◌, ◌*◌, ◌%◌, ◌^◌, ◌≤◌, ◌<◌}
use native.Mathlib.Nat.{mod-eq_of_lt, lt_of_lt_of_le}
use native.Mathlib.Decide.{dec_lt}
use native.Mathlib.Omega.{arith}
use borrow.Author.Tests.{lt-ltb, le-ltb}
use lib.Dec.{ltb}
use lib.Pow.{pow_mono}
use lib.ListN.{length, take, drop}
use lib.Seq.{take_at, drop_at, drop-drop}
use Rattle.bits.specs.Bytes.{Bytes, word, value, bits, bytes}
use Rattle.bits.proofs.Packing.{bytes_bits, bits-bytes}
use Rattle.bits.proofs.Spelling.{spelled}
use Rattle.bits.proofs.Word.{value-word}
use Rattle.refusals.specs.declared.Refusal.{Refusal}
use Rattle.refusals.specs.declared.Refusal.TheVariants.{TagDiffers}
use Rattle.refusals.specs.Refusals.{Check, after, passed}
use Rattle.std.specs.Prelude.{Ok, Err}
use Rattle.refusals.specs.Outcome.{Outcome, outcome, success, settled}
use Rattle.refusals.proofs.LastRow.{settled_failed}
use Rattle.tagged.specs.Cipher.{Cipher, Sound}
use Rattle.tagged.specs.Payload.{payload, recovered, tag_differs}
use Rattle.tagged.proofs.Opening.{Authentic, length-payload, length_authentic, verdict}

-- The output after sealing: the ciphertext was written, then the tag behind it.
pub sealed_output_lem : (c : Cipher) → Sound c → (message lent out written : List ℕ) → out ≡ c.ciphertext message ++ drop (length message) lent
    → written ≡ take (length message) out ++ (c.tag message ++ drop c.size (drop (length message) out))
    → outcome (Ok (length message + c.size)) written ≡ success (payload c message) lent
sealed_output_lem c sound message lent out written first second = ap₂ outcome (ap Ok (sym (length-payload c sound message))) (second ∙ both)
  where
    x : List ℕ
    x = c.ciphertext message

    t : List ℕ
    t = c.tag message

    behind : drop (length message) out ≡ drop (length message) lent
    behind = ap (drop (length message)) first ∙ drop_at x (drop (length message) lent) (length message) (sound.length_ciphertext message)

    both : take (length message) out ++ (t ++ drop c.size (drop (length message) out)) ≡ x ++ t ++ drop (length (x ++ t)) lent
    both =
        ap₂ (λ (y z : List ℕ). y ++ (t ++ z))
        (ap (take (length message)) first ∙ take_at x (drop (length message) lent) (length message) (sound.length_ciphertext message))
        (ap (drop c.size) behind ∙ drop-drop c.size (length message) lent ∙ ap (λ (k : ℕ). drop k lent) (sym (length-payload c sound message)))
        ∙ sym (append_assoc x t (drop (length (x ++ t)) lent))

-- No room for the message, tested without a difference.
pub no_room : (size room n : ℕ) → ltb (room + size) n ≡ ltb room (n - size)
no_room size room n = elim (dec_lt (room + size) n) [ yes h ↦ lt-ltb (room + size) n h ∙ sym (lt-ltb room (n - size) (omega arith)) | no h ↦ le-ltb (room + size) n (omega arith) ∙ sym (le-ltb room (n - size) (omega arith)) ]

-- The received tag, of eight bytes at most, is the computed one exactly when their words are the same number.
module _ (size : ℕ) (received : List ℕ) (computed : List Bool) (r n : ℕ) (most : size ≤ 8) (sized : length received ≡ size) (is_bytes : Bytes received)
    (long : length computed ≡ 8 * size) (small : r < 2 ^ (8 * size)) (spells : n ≡ value (bits received) % 2 ^ 64) (tagged : word (8 * size) r ≡ computed) where
  received_bits : word (8 * size) n ≡ bits received
  received_bits = ap (λ (k : ℕ). word (8 * k) n) (sym sized) ∙ spelled received n (omega arith) spells

  pub same_number : r ≡ n → received ≡ bytes size computed
  same_number e =
      sym (ap (λ (k : ℕ). bytes k (bits received)) (sym sized) ∙ bytes_bits received is_bytes)
      ∙ ap (bytes size) (sym received_bits ∙ ap (word (8 * size)) (sym e) ∙ tagged)

  pub same_tag : received ≡ bytes size computed → r ≡ n
  same_tag e =
      sym (mod-eq_of_lt (lt_of_lt_of_le small (pow_mono {j = 64} (omega arith))))
      ∙ ap (λ (k : ℕ). k % 2 ^ 64)
      (sym (mod-eq_of_lt small) ∙ sym (value-word (8 * size) r) ∙ ap value (tagged ∙ sym (ap bits e ∙ bits-bytes size computed long)))
      ∙ sym spells

-- An outcome of opening that is settled by some rows and then the tag's.
module _ (c : Cipher) (input out : List ℕ) (j : Check) (o : Outcome)
    (settles : o ≡ settled (after j TagDiffers (tag_differs c input)) (recovered c input) out) where
  pub open_failed : {r : Refusal} → j ≡ Err r → outcome (Err r) out ≡ o
  open_failed failed = settled_failed _ (recovered c input) out settles (ap (λ (k : Check). after k TagDiffers (tag_differs c input)) failed)

  module _ (passed : j ≡ passed) where
    pub open_passed : Sound c → Authentic c input → {written : List ℕ} → written ≡ recovered c input ++ drop (length (recovered c input)) out
        → outcome (Ok (length input - c.size)) written ≡ o
    open_passed sound authentic added =
        ap₂ outcome (ap Ok (omega (arith, length_authentic c sound input authentic))) added
        ∙ sym ((verdict c input out j o settles passed (λ a. a, λ a. a) refl).returns authentic)

    pub open_differs : ¬ Authentic c input → outcome (Err TagDiffers) out ≡ o
    open_differs differs = sym ((verdict c input out j o settles passed (λ a. a, λ a. a) refl).refuses differs)
