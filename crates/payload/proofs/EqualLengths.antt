-- Two pairs of equal lengths: their strings differ at data positions alone.
-- Assumes nothing.
use mathlib.Core.Path.{◌≡◌, refl, sym, ap, ap₂, ◌∙◌}
use mathlib.Core.Bool.{Bool, true}
use mathlib.Core.List.{List, [], ◌∷◌, ◌++◌, append_assoc}
use Prim.Native.Nat.{ℕ}
use lib.Dec.{lit<}
use lib.ListN.{length}
use Rattle.bits.specs.Strings.{◌⊞◌, zeros}
use Rattle.bits.proofs.Flip.{Flips}
use Rattle.bits.proofs.Sum.{sum-append, sum_self}
use Rattle.authenticator.specs.ClosedForm.{registers_at}
use Rattle.authenticator.proofs.Linear.{registers_at_between}
use Rattle.machine.specs.declared.edition.Edition.{Edition}
use Rattle.machine.specs.Laws as machine
use Rattle.machine.proofs.Accumulator.{length-register_at}
use Rattle.key.specs.Sizes.{key_size, nonce_size}
use Rattle.startup.specs.Editions.{bits_in, flip_in, initialised}
use Rattle.startup.proofs.Order.{length-bits_in, as_many_bits_in, length-flip_in, sum-flip_in}
use Rattle.startup.proofs.Sizes.{initialised-sized}
use Rattle.lengths.specs.CodedLength.{coded_length}
use Rattle.payload.specs.AuthenticatedString.{header, authenticated}
use Rattle.payload.specs.Laws.{register_at, flipped_registers}
use Rattle.payload.specs.TwoTags.{differing_registers, EqualLengths}

-- The sum of two strings, each of a code, the bits of an AD, those of a message and a 1: nothing in the code, the sums of the others, and
-- nothing at the 1.
string-sum : (c a m a' m' : List Bool) → length a ≡ length a' → length m ≡ length m'
    → (c ++ a ++ m ++ (true ∷ [])) ⊞ (c ++ a' ++ m' ++ (true ∷ [])) ≡ zeros (length c) ++ (((a ⊞ a') ++ (m ⊞ m')) ++ zeros 1)
string-sum c a m a' m' la lm =
    simp append_assoc
    (sum-append c c (a ++ (m ++ (true ∷ []))) (a' ++ (m' ++ (true ∷ []))) refl
    ∙ ap₂ ◌++◌ (sum_self c)
    (sum-append a a' (m ++ (true ∷ [])) (m' ++ (true ∷ [])) la
    ∙ ap (λ (r : List Bool). (a ⊞ a') ++ r) (sum-append m m' (true ∷ []) (true ∷ []) lm ∙ ap (λ (r : List Bool). (m ⊞ m') ++ r) (sum_self (true ∷ [])))))

pub equal_lengths : EqualLengths
unfolding differing_registers machine.differing_registers flipped_registers authenticated header
equal_lengths ed key nonce ad message ad' message' k n la lm =
    ap (λ (len : ℕ). at 0 (authenticated ed ad message ⊞ (bits_in ed (coded_length len) ++ bits_in ed ad' ++ bits_in ed message' ++ (true ∷ [])))) (sym la)
    ∙ ap (at 0) (string-sum coded (bits_in ed ad) (bits_in ed message) (bits_in ed ad') (bits_in ed message') (as_many_bits_in ed ad ad' la) (as_many_bits_in ed message message' lm))
    ∙ registers_at_between 64 (register_at ed key nonce) wide (length coded) 1 ((bits_in ed ad ⊞ bits_in ed ad') ++ (bits_in ed message ⊞ bits_in ed message'))
    ∙ ap (λ (i : ℕ). at i ((bits_in ed ad ⊞ bits_in ed ad') ++ (bits_in ed message ⊞ bits_in ed message'))) (length-bits_in ed (coded_length (length ad)))
  where
    coded : List Bool
    coded = bits_in ed (coded_length (length ad))

    at : ℕ → List Bool → List Bool
    at = registers_at 64 (register_at ed key nonce)

    wide : (i : ℕ) → length (register_at ed key nonce i) ≡ 64
    wide = length-register_at 64 (initialised ed key nonce) (lit< tt) (initialised-sized ed key nonce k n)

-- Flips leave the lengths as they are.
pub flipped-lengths : (ed : Edition) (key nonce ad message : List ℕ) (d e : List Bool) → length key ≡ key_size → length nonce ≡ nonce_size → Flips ad d → Flips message e
    → differing_registers ed key nonce ad message (flip_in ed ad d) (flip_in ed message e) ≡ flipped_registers ed key nonce ad d e
flipped-lengths ed key nonce ad message d e k n hd he =
    equal_lengths ed key nonce ad message (flip_in ed ad d) (flip_in ed message e) k n (sym (length-flip_in ed ad d)) (sym (length-flip_in ed message e))
    ∙ ap₂ (flipped_registers ed key nonce ad) (sum-flip_in ed ad d hd) (sum-flip_in ed message e he)
