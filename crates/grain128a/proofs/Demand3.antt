-- Demand 3: which flips opening accepts, and bits past the tag's length.
-- Assumes nothing.
use mathlib.Core.Path.{◌≡◌, refl, sym, ap, ap₂, ◌∙◌}
use mathlib.Core.Logic.{◌↔◌}
use mathlib.Core.Bool.{Bool, true, false, true≢false}
use mathlib.Core.List.{List, [], ◌∷◌, ◌++◌}
use Prim.Native.Nat.{ℕ, ◌+◌, ◌-◌, ◌*◌, ◌≤◌}
use native.Mathlib.Nat.{le_of_eq}
use native.Mathlib.Omega.{arith}
use lib.Dec.{lit<}
use lib.ListN.{length, take, drop, length-append, length-drop, take-append-drop, get_or-eq_default}
use lib.Seq.{take_at, drop_at, length-take-le}
use Rattle.bits.specs.Bytes.{Bytes}
use Rattle.bits.specs.Strings.{◌⊞◌, zeros, places}
use Rattle.bits.proofs.Flip.{Flips}
use Rattle.bits.proofs.Slides.{places-zeros}
use Rattle.bits.proofs.Sum.{sum_comm, sum_self, sum_zeros, sum-append, sum_agrees, drop-sum, length-sum}
use Rattle.authenticator.specs.ClosedForm.{registers_at}
use Rattle.authenticator.proofs.Cutting.{cut_sums}
use Rattle.authenticator.proofs.Linear.{registers_at_between}
use Rattle.machine.specs.declared.edition.Edition.TheVariants.{First}
use Rattle.machine.specs.Machine.{State}
use Rattle.machine.specs.Laws.{register_at, differing_registers}
use Rattle.machine.proofs.Accumulator.{length-register_at, accumulator-sum}
use Rattle.key.specs.Sizes.{key_size, nonce_size}
use Rattle.startup.proofs.Order.{length-bits_in, bytes_in_are_bytes, bits_in_injective, length-flip_in, bits_in-flip_in, flip_in-append, flip_in_are_bytes, sum-flip_in, length-sum-bits_in, flip_in-sum}
use Rattle.strings.proofs.OverBytes.{crypt_bytes}
use Rattle.strings.proofs.ByteStrings.{crypt_bytes_between}
use Rattle.tagged.specs.Payload.{ciphertext_part, tag_part}
use Rattle.tagged.proofs.Parts.{ciphertext_part-joined, tag_part-joined, parts}
use Rattle.tagged.proofs.Opening.{Authentic, length-recovered, verdict}
use Rattle.grain128a.specs.Bits.{bits, flip}
use Rattle.grain128a.specs.StartUp.{initialised}
use Rattle.grain128a.specs.Payload.{authenticated, ciphertext, deciphered, tag_size, pad, cut, tag_bits, tag, cipher, payload}
use Rattle.grain128a.specs.Calls.{recovered, opened}
use Rattle.grain128a.specs.Demand2.{Legal}
use Rattle.grain128a.specs.Demand3.{flipped_registers, Flipped, Agrees, Demand3, EveryFlip, PastTag}
use Rattle.grain128a.proofs.StartUp.{initialised-sized}
use Rattle.grain128a.proofs.Payload.{sound, length-tag_bits, bits-tag, lengths}
use Rattle.grain128a.proofs.Settled.{opening_judgement, opened-settled}
use Rattle.grain128a.proofs.Demand2.{opening-passes}

-- The strings of a message and of the same with flips differ at the flips.
string-flips : (m : List ℕ) (d : List Bool) → Flips m d → authenticated m ⊞ authenticated (flip m d) ≡ d ++ zeros 1
unfolding authenticated
string-flips m d h =
    sum-append (bits m) (bits (flip m d)) (true ∷ []) (true ∷ []) (length-bits_in First m ∙ ap (λ (n : ℕ). 8 * n) (sym (length-flip_in First m d)) ∙ sym (length-bits_in First (flip m d)))
    ∙ ap₂ ◌++◌ (sum-flip_in First m d h) (sum_self (true ∷ []))

module _ (w : ℕ) (key nonce : List ℕ) (k : length key ≡ key_size) (n : length nonce ≡ nonce_size) (few : w ≤ 32) where
  -- The tags of a message and of the same with flips add up to the registers at the flips, cut as the tag is.
  tag-sum : (m : List ℕ) (d : List Bool) → Flips m d → tag_bits w key nonce m ⊞ tag_bits w key nonce (flip m d) ≡ flipped_registers w key nonce d
  unfolding tag_bits flipped_registers differing_registers
  tag-sum m d h =
      sym (drop-sum (32 - w) _ _)
      ∙ ap (cut w)
      (accumulator-sum 32 st (authenticated m) (authenticated (flip m d)) (lit< tt) (initialised-sized key nonce k n)
      ∙ ap (registers_at 32 (register_at st) 0) (string-flips m d h)
      ∙ registers_at_between 32 (register_at st) (length-register_at 32 st (lit< tt) (initialised-sized key nonce k n)) 0 1 d)
      ∙ cut_sums (32 - w) 32 (register_at st) 0 d
      ∙ ap (λ (v : ℕ). registers_at v (λ i. cut w (register_at st i)) 0 d) (omega arith)
    where
      st : State
      st = initialised key nonce

  -- Bits in place of a tag's bytes are a message's tag exactly when their first w are its bits, and all past them are zeros.
  same_tag : (m t : List ℕ) (a b : List Bool) → Bytes t → bits t ≡ a ++ b → length a ≡ w → (t ≡ tag w key nonce m) ↔ ((a ≡ tag_bits w key nonce m) × (b ≡ zeros (pad w)))
  unfolding tag
  same_tag m t a b is_bytes e la = (
    λ same.
        let j = sym e ∙ ap bits same ∙ bits-tag w key nonce k n few m in (
          sym (take_at a b w la) ∙ ap (take w) j ∙ take_at (tag_bits w key nonce m) (zeros (pad w)) w (length-tag_bits w key nonce k n few m),
          sym (drop_at a b w la) ∙ ap (drop w) j ∙ drop_at (tag_bits w key nonce m) (zeros (pad w)) w (length-tag_bits w key nonce k n few m),
        ),
    λ h. bits_in_injective First t (tag w key nonce m) is_bytes (bytes_in_are_bytes First (tag_size w) _) (e ∙ ap₂ ◌++◌ h.0 h.1 ∙ sym (bits-tag w key nonce k n few m)),
  )

module _ {w : ℕ} {key nonce input : List ℕ} (f : Flipped w key nonce input) where
  open f use {old_message, in_ciphertext, in_tag, past}

  legal : Legal w key nonce old_message
  legal = f.genuine.legal

  -- The input is the flipped ciphertext and the flipped tag.
  c' : List ℕ
  c' = flip (ciphertext key nonce old_message) in_ciphertext

  t' : List ℕ
  t' = flip (tag w key nonce old_message) (in_tag ++ past)

  input_parts : input ≡ c' ++ t'
  unfolding payload cipher c' t'
  input_parts =
      f.flipped_input ∙ ap (λ (p : List ℕ). flip p (in_ciphertext ++ (in_tag ++ past))) (sym f.genuine.made)
      ∙ flip_in-append First (ciphertext key nonce old_message) (tag w key nonce old_message) in_ciphertext (in_tag ++ past)
      (f.ciphertext_flips ∙ ap (λ (n : ℕ). 8 * n) (sym ((sound w key nonce).length_ciphertext old_message)))

  length_c' : length c' ≡ length old_message
  unfolding c' cipher
  length_c' = length-flip_in First (ciphertext key nonce old_message) in_ciphertext ∙ (sound w key nonce).length_ciphertext old_message

  length_t' : length t' ≡ tag_size w
  unfolding t' cipher
  length_t' = length-flip_in First (tag w key nonce old_message) (in_tag ++ past) ∙ (sound w key nonce).length_tag old_message

  -- It hides the old message with the ciphertext's flips.
  recovers : recovered w key nonce input ≡ flip old_message in_ciphertext
  unfolding cipher c' ciphertext deciphered crypt_bytes
  recovers =
      ap (deciphered key nonce) (ap (ciphertext_part (tag_size w)) input_parts ∙ ciphertext_part-joined (tag_size w) c' t' length_t')
      ∙ crypt_bytes_between First (initialised key nonce) (initialised key nonce) true false old_message in_ciphertext refl f.ciphertext_flips

  tag_flips_lem : Flips (tag w key nonce old_message) (in_tag ++ past)
  unfolding cipher
  tag_flips_lem = omega (arith, length-append in_tag past, f.tag_flips, f.past_flips, (sound w key nonce).length_tag old_message)

  -- The received tag's bits are the old ones with the flips; past its length there were zeros.
  received_bits : bits t' ≡ (tag_bits w key nonce old_message ⊞ in_tag) ++ past
  unfolding t'
  received_bits =
      let few = legal.tag_fits in
      let old = length-tag_bits w key nonce legal.common.key_sized legal.common.nonce_sized few old_message in
      bits_in-flip_in First (tag w key nonce old_message) (in_tag ++ past) tag_flips_lem
      ∙ ap (λ (r : List Bool). r ⊞ (in_tag ++ past)) (bits-tag w key nonce legal.common.key_sized legal.common.nonce_sized few old_message)
      ∙ sum-append (tag_bits w key nonce old_message) in_tag (zeros (pad w)) past (old ∙ sym f.tag_flips)
      ∙ ap (λ (r : List Bool). (tag_bits w key nonce old_message ⊞ in_tag) ++ r) (sum_comm (zeros (pad w)) past ∙ sum_zeros past (pad w) (le_of_eq (sym f.past_flips)))

  authentic_agrees : Authentic (cipher w key nonce) input ↔ Agrees f
  unfolding cipher t'
  authentic_agrees =
      let k = legal.common.key_sized in
      let n = legal.common.nonce_sized in
      let few = legal.tag_fits in
      let old = length-tag_bits w key nonce k n few old_message in
      let new = length-tag_bits w key nonce k n few (flip old_message in_ciphertext) in
      let by_bits = same_tag w key nonce k n few (flip old_message in_ciphertext) t' (tag_bits w key nonce old_message ⊞ in_tag) past
      (flip_in_are_bytes First (tag w key nonce old_message) (in_tag ++ past)) received_bits (length-sum (tag_bits w key nonce old_message) in_tag (old ∙ sym f.tag_flips) ∙ old) in
      let by-sum = sum_agrees (tag_bits w key nonce old_message) (tag_bits w key nonce (flip old_message in_ciphertext)) (flipped_registers w key nonce in_ciphertext) in_tag
      (old ∙ sym new) (old ∙ sym f.tag_flips) (tag-sum w key nonce k n few old_message in_ciphertext f.ciphertext_flips) in
      let received = ap (tag_part (tag_size w)) input_parts ∙ tag_part-joined (tag_size w) c' t' length_t' in (
        λ a. let b = by_bits.0 (sym received ∙ a ∙ ap (tag w key nonce) recovers) in (by-sum.0 b.0, b.1),
        λ h. received ∙ by_bits.1 (by-sum.1 h.0, h.1) ∙ ap (tag w key nonce) (sym recovers),
      )

pub demand3 : (w : ℕ) (key nonce input out : List ℕ) → Demand3 w key nonce input out (opened w key nonce input out)
demand3 w key nonce input out f room =
    verdict (cipher w key nonce) input out (opening_judgement w key nonce input out) (opened w key nonce input out) (opened-settled w key nonce input out)
    (opening-passes w key nonce input out f.old_message f.genuine.legal (ap length (input_parts f) ∙ length-append (c' f) (t' f) ∙ ap₂ ◌+◌ (length_c' f) (length_t' f)) room)
    (authentic_agrees f) (recovers f)

-- The flips are the sum of the two, parted.
pub every-flip : EveryFlip
every-flip w key nonce message p input makes b e = (
  record {
    old_message = message;
    old_payload = p;
    genuine = makes;
    in_ciphertext = take n flips;
    in_tag = take w (drop n flips);
    past = drop w (drop n flips);
    ciphertext_flips = length-take-le n flips (omega (arith, all, long));
    tag_flips = length-take-le w (drop n flips) (omega (arith, length-drop n flips, all, long));
    past_flips = omega (arith, length-drop w (drop n flips), length-drop n flips, all, long);
    flipped_input =
        sym
        (ap (λ (r : List Bool). flip p (take n flips ++ r)) (take-append-drop w (drop n flips)) ∙ ap (flip p) (take-append-drop n flips)
        ∙ flip_in-sum First p input b (sym e));
  },
  refl,
  refl,
)
  where
    n : ℕ
    n = 8 * length message

    flips : List Bool
    flips = bits p ⊞ bits input

    all : Flips p flips
    all = length-sum-bits_in First p input (sym e)

    long : length p ≡ length message + tag_size w
    long = ap length (sym makes.made) ∙ (lengths w key nonce message).payload

-- An authentic tag has zeros past its length.
pub past-tag : (w : ℕ) (key nonce input out : List ℕ) → PastTag w key nonce input out (opened w key nonce input out)
unfolding cipher
past-tag w key nonce input out l long room i h set =
    (verdict (cipher w key nonce) input out (opening_judgement w key nonce input out) (opened w key nonce input out) (opened-settled w key nonce input out)
    (opening-passes w key nonce input out (recovered w key nonce input) l (length-recovered (cipher w key nonce) (sound w key nonce) input ((parts (tag_size w) input).whole long)) room)
    (λ a. a, λ a. a) refl).refuses
    (λ a. true≢false (sym set ∙ ap (λ (t : List ℕ). places (bits t) i) a ∙ ap (λ (s : List Bool). places s i) (bits-tag w key nonce l.common.key_sized l.common.nonce_sized l.tag_fits (recovered w key nonce input)) ∙ none (tag_bits w key nonce (recovered w key nonce input)) (length-tag_bits w key nonce l.common.key_sized l.common.nonce_sized l.tag_fits (recovered w key nonce input))))
  where
    none : (s : List Bool) → length s ≡ w → places (s ++ zeros (pad w)) i ≡ false
    none s e = places-zeros s (pad w) i ∙ get_or-eq_default s false (omega (arith, e))
