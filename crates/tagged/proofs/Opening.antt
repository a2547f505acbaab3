-- Opening, over any cipher with a tag and any rows before the tag's: what it accepts, what it returns, and by which condition.
-- Assumes nothing.
use mathlib.Core.Path.{◌≡◌, refl, sym, ap, ap₂, ◌∙◌, subst}
use mathlib.Core.Logic.{◌↔◌}
use mathlib.Core.Bool.{Bool, true, false, cond, not}
use mathlib.Core.List.{List, ◌++◌}
use Prim.Native.Nat.{ℕ, ◌+◌, ◌≤◌}
use borrow.Author.Tests.{not-false}
use lib.ListN.{length, length-append}
use Rattle.bits.specs.Bytes.{Bytes, same}
use Rattle.bits.proofs.Packing.{same_equal, equal_same}
use Rattle.refusals.specs.declared.Refusal.TheVariants.{TagDiffers}
use Rattle.refusals.specs.Refusals.{Check, after, passed}
use Rattle.refusals.specs.Outcome.{Outcome, settled, refused, success}
use Rattle.refusals.specs.Demand1.{Accepts}
use Rattle.refusals.proofs.LastRow.{after_passed, settled_passed, settled-last}
use Rattle.tagged.specs.Cipher.{Cipher, Sound}
use Rattle.tagged.specs.Payload.{ciphertext_part, tag_part, payload, recovered, tag_differs}
use Rattle.tagged.specs.Demands.{Makes, Demand2, Verdict}
use Rattle.tagged.proofs.Parts.{ciphertext_part-joined, tag_part-joined, parts, ciphertext_part-bytes}

-- The tag part is the tag of the message that the input would have.
abbrev pub Authentic : Cipher → (input : List ℕ) → Type 0
Authentic c input = tag_part c.size input ≡ c.tag (recovered c input)

module _ (c : Cipher) (input : List ℕ) where
  pub tag_authentic : tag_differs c input ≡ false → Authentic c input
  tag_authentic e = same_equal (tag_part c.size input) (c.tag (recovered c input)) (not-false (same (tag_part c.size input) (c.tag (recovered c input))) e)

  pub authentic_tag : Authentic c input → tag_differs c input ≡ false
  authentic_tag e = ap (λ (t : List ℕ). not (same t (c.tag (recovered c input)))) e ∙ ap not (equal_same (c.tag (recovered c input)))

module _ (c : Cipher) (sound : Sound c) where
  pub length-payload : (m : List ℕ) → length (payload c m) ≡ length m + c.size
  length-payload m = length-append (c.ciphertext m) (c.tag m) ∙ ap₂ ◌+◌ (sound.length_ciphertext m) (sound.length_tag m)

  module _ (input : List ℕ) where
    -- An input with a whole tag is as long as its message and the tag.
    pub length-recovered : length (tag_part c.size input) ≡ c.size → length input ≡ length (recovered c input) + c.size
    length-recovered e = sym (parts c.size input).lengths ∙ ap₂ ◌+◌ (sym (sound.length_deciphered (ciphertext_part c.size input))) e

    pub length_authentic : Authentic c input → length input ≡ length (recovered c input) + c.size
    length_authentic authentic = length-recovered (ap length authentic ∙ sound.length_tag (recovered c input))

    -- What a message makes has that message's tag, hides that message, and is authentic.
    pub makes-tag : (m : List ℕ) → payload c m ≡ input → tag_part c.size input ≡ c.tag m
    makes-tag m made = ap (tag_part c.size) (sym made) ∙ tag_part-joined c.size (c.ciphertext m) (c.tag m) (sound.length_tag m)

    pub makes-recovered : (m : List ℕ) → Bytes m → payload c m ≡ input → recovered c input ≡ m
    makes-recovered m b made =
        ap c.deciphered (ap (ciphertext_part c.size) (sym made) ∙ ciphertext_part-joined c.size (c.ciphertext m) (c.tag m) (sound.length_tag m))
        ∙ sound.back m b

    pub makes_authentic : (m : List ℕ) → Bytes m → payload c m ≡ input → Authentic c input
    makes_authentic m b made = makes-tag m made ∙ ap c.tag (sym (makes-recovered m b made))

    -- An authentic input is made by the message that it hides.
    pub authentic_makes : Bytes input → Authentic c input → payload c (recovered c input) ≡ input
    authentic_makes b authentic =
        ap₂ ◌++◌ (sound.forth (ciphertext_part c.size input) (ciphertext_part-bytes c.size input b)) (sym authentic)
        ∙ (parts c.size input).together

-- An outcome that is settled by some rows and then the tag's.
module _ (c : Cipher) (input out : List ℕ) (j : Check) (o : Outcome)
    (settles : o ≡ settled (after j TagDiffers (tag_differs c input)) (recovered c input) out) where
  -- Where the rows before it have passed, only the tag's is left.
  pub opening-tag : j ≡ passed → o ≡ cond (tag_differs c input) (refused TagDiffers out) (success (recovered c input) out)
  opening-tag passed =
      settles ∙ ap (λ (k : Check). settled (after k TagDiffers (tag_differs c input)) (recovered c input) out) passed
      ∙ settled-last TagDiffers (tag_differs c input) (recovered c input) out

  pub opening_passed : Accepts o → (j ≡ passed) × Authentic c input
  opening_passed a =
      let p = after_passed j TagDiffers (tag_differs c input) (settled_passed _ (recovered c input) out (subst Accepts settles a)) in
      (p.0, tag_authentic c input p.1)

  -- Opening goes by whatever holds exactly when the tag is the recomputed one.
  module _ (passed : j ≡ passed) {agrees : Type 0} (same : Authentic c input ↔ agrees) {message : List ℕ} (hidden : recovered c input ≡ message) where
    by_tag : (differs : Bool) → tag_differs c input ≡ differs → o ≡ cond differs (refused TagDiffers out) (success message out)
    by_tag differs h = opening-tag passed ∙ ap₂ (λ (b : Bool) (w : List ℕ). cond b (refused TagDiffers out) (success w out)) h hidden

    returns : agrees → o ≡ success message out
    returns h = by_tag false (authentic_tag c input (same.1 h))

    refuses : ¬ agrees → (differs : Bool) → tag_differs c input ≡ differs → o ≡ refused TagDiffers out
    refuses fails true h = by_tag true h
    refuses fails false h = absurd (fails (same.0 (tag_authentic c input h)))

    pub verdict : Verdict agrees message out o
    verdict = record {
      accepts = (λ a. same.0 (opening_passed a).1, λ h. (_, ap (λ (u : Outcome). u.answer) (returns h)));
      returns = returns;
      refuses = λ fails. refuses fails (tag_differs c input) refl;
    }

  -- Where the rows pass exactly with what is legal and room for the message, opening accepts exactly what some message makes.
  module _ (sound : Sound c) (is_bytes : Bytes input) (legal : List ℕ → Type 0)
      (passes : (m : List ℕ) → legal m → length input ≡ length m + c.size → length m ≤ length out → j ≡ passed)
      (fits : j ≡ passed → (m : List ℕ) → length input ≡ length m + c.size → legal m × (length m ≤ length out)) where
    makes-opened : (m : List ℕ) → Makes legal (payload c) m input → length m ≤ length out → o ≡ success m out
    makes-opened m makes room =
        (verdict (passes m makes.legal (ap length (sym makes.made) ∙ length-payload c sound m) room) (λ a. a, λ a. a)
        (makes-recovered c sound input m makes.is_bytes makes.made)).returns (makes_authentic c sound input m makes.is_bytes makes.made)

    accepted-makes : Accepts o → (m : List ℕ) × Makes legal (payload c) m input × (length m ≤ length out)
    accepted-makes a =
        let p = opening_passed a in
        let f = fits p.0 (recovered c input) (length_authentic c sound input p.1) in
        (recovered c input, record { is_bytes = sound.is_bytes _; legal = f.0; made = authentic_makes c sound input is_bytes p.1 }, f.1)

    pub demand2 : Demand2 legal (payload c) input out o
    demand2 = record {
      accepts = (accepted-makes, λ h. (length h.0, ap (λ (u : Outcome). u.answer) (makes-opened h.0 h.1 h.2)));
      returns = makes-opened;
      unique = λ m n hm hn. sym (makes-recovered c sound input m hm.is_bytes hm.made) ∙ makes-recovered c sound input n hn.is_bytes hn.made;
    }
