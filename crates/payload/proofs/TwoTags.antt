-- The sum of two tags.
-- Assumes nothing.
use mathlib.Core.Path.{◌≡◌, sym, ap, ap₂, ◌∙◌, subst}
use mathlib.Core.Logic.{◌↔◌}
use mathlib.Core.Bool.{Bool}
use mathlib.Core.List.{List}
use Prim.Native.Nat.{ℕ, ◌*◌}
use native.Mathlib.Nat.{le_of_eq}
use lib.Dec.{lit<}
use lib.ListN.{length}
use Rattle.bits.specs.Bytes.{Bytes}
use Rattle.bits.specs.Strings.{◌⊞◌, zeros}
use Rattle.bits.proofs.Sum.{sum_self, sum_cancel}
use Rattle.machine.specs.declared.edition.Edition.{Edition}
use Rattle.machine.specs.Machine.{run}
use Rattle.machine.proofs.Accumulator.{accumulator-sum}
use Rattle.key.specs.Sizes.{key_size, nonce_size}
use Rattle.startup.specs.Editions.{bits_in, initialised}
use Rattle.startup.proofs.Order.{length-bits_in, bits_in-bytes_in, bytes_in_are_bytes, bits_in_injective}
use Rattle.startup.proofs.Sizes.{initialised-sized}
use Rattle.payload.specs.Sizes.{tag_size}
use Rattle.payload.specs.AuthenticatedString.{authenticated}
use Rattle.payload.specs.Payload.{tag}
use Rattle.payload.specs.TwoTags.{differing_registers, EqualTags, TagSum}
use Rattle.payload.proofs.Machine.{states}
use Rattle.payload.proofs.Payload.{length_tag_lem}

pub tag-bytes : (ed : Edition) (key nonce ad message : List ℕ) → Bytes (tag ed key nonce ad message)
unfolding tag
tag-bytes ed key nonce ad message = bytes_in_are_bytes ed tag_size _

length_tag-bits : (ed : Edition) (key nonce ad message : List ℕ) → length (bits_in ed (tag ed key nonce ad message)) ≡ 64
length_tag-bits ed key nonce ad message = length-bits_in ed (tag ed key nonce ad message) ∙ ap (λ (n : ℕ). 8 * n) (length_tag_lem ed key nonce ad message)

-- The bits of a tag are the accumulator after the final 1.
tag_bits_lem : (ed : Edition) (key nonce ad message : List ℕ) → length key ≡ key_size → length nonce ≡ nonce_size
    → bits_in ed (tag ed key nonce ad message) ≡ (run (initialised ed key nonce) (authenticated ed ad message)).authenticator.accumulator
unfolding tag
tag_bits_lem ed key nonce ad message k n = bits_in-bytes_in ed tag_size _ (states ed key nonce (authenticated ed ad message) k n).authenticator.accumulator

pub tag-sum : TagSum
unfolding differing_registers
tag-sum ed key nonce ad message ad' message' k n =
    ap₂ ◌⊞◌ (tag_bits_lem ed key nonce ad message k n) (tag_bits_lem ed key nonce ad' message' k n)
    ∙ accumulator-sum 64 (initialised ed key nonce) (authenticated ed ad message) (authenticated ed ad' message') (lit< tt) (initialised-sized ed key nonce k n)

-- Eight bytes are the second tag exactly when their sum with the first is the sum of the registers.
pub second_tag : (ed : Edition) (key nonce ad message ad' message' t : List ℕ) → length key ≡ key_size → length nonce ≡ nonce_size
    → Bytes t → length t ≡ tag_size
    → (t ≡ tag ed key nonce ad' message') ↔ (differing_registers ed key nonce ad message ad' message' ≡ bits_in ed (tag ed key nonce ad message) ⊞ bits_in ed t)
second_tag ed key nonce ad message ad' message' t k n b e = (
  λ same. sym sum ∙ ap (λ (u : List ℕ). bits_in ed old ⊞ bits_in ed u) (sym same),
  λ agrees. bits_in_injective ed t new b (tag-bytes ed key nonce ad' message') (sum_cancel (bits_in ed old) (bits_in ed t) (bits_in ed new) (le_of_eq (wide ∙ sym wide_t)) (le_of_eq (wide ∙ sym (length_tag-bits ed key nonce ad' message'))) (sym agrees ∙ sym sum)),
)
  where
    old : List ℕ
    old = tag ed key nonce ad message

    new : List ℕ
    new = tag ed key nonce ad' message'

    sum : bits_in ed old ⊞ bits_in ed new ≡ differing_registers ed key nonce ad message ad' message'
    sum = tag-sum ed key nonce ad message ad' message' k n

    wide : length (bits_in ed old) ≡ 64
    wide = length_tag-bits ed key nonce ad message

    wide_t : length (bits_in ed t) ≡ 64
    wide_t = length-bits_in ed t ∙ ap (λ (m : ℕ). 8 * m) e

-- A tag and itself add up to zero.
pub tag_self : (ed : Edition) (key nonce ad message : List ℕ) → bits_in ed (tag ed key nonce ad message) ⊞ bits_in ed (tag ed key nonce ad message) ≡ zeros 64
tag_self ed key nonce ad message = sum_self (bits_in ed (tag ed key nonce ad message)) ∙ ap zeros (length_tag-bits ed key nonce ad message)

pub equal_tags : EqualTags
equal_tags ed key nonce ad message ad' message' k n =
    subst (λ (z : List Bool). (old ≡ tag ed key nonce ad' message') ↔ (differing_registers ed key nonce ad message ad' message' ≡ z)) (tag_self ed key nonce ad message)
    (second_tag ed key nonce ad message ad' message' old k n (tag-bytes ed key nonce ad message) (length_tag_lem ed key nonce ad message))
  where
    old : List ℕ
    old = tag ed key nonce ad message
