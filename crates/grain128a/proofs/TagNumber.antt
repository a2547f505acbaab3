-- The tag as a number, from the accumulator's word.
-- Assumes nothing.
use mathlib.Core.Path.{◌≡◌, sym, ap, ap₂, ◌∙◌, subst}
use mathlib.Core.Bool.{Bool}
use mathlib.Core.List.{List, ◌++◌}
use Prim.Native.Nat.{ℕ, ◌+◌, ◌-◌, ◌*◌, ◌%◌, ◌^◌, ◌≤◌, ◌<◌}
use native.Mathlib.Nat.{mod-lt}
use native.Mathlib.Omega.{arith}
use lib.ListN.{drop}
use lib.Pow.{pow_pos, shl_lt, shl_exact}
use Rattle.bits.specs.Bytes.{word}
use Rattle.bits.specs.Strings.{zeros}
use Rattle.bits.proofs.Moved.{word-zero}
use Rattle.bits.proofs.Word.{one_up, word_agrees, word-append, word-drop}
use native.Mathlib.Nat.{mod-mod, add-zero}
use Rattle.grain128a.specs.Payload.{tag_size, pad}
use Rattle.grain128a.specs.TagNumber.{TagNumber}

module _ (w t : ℕ) (few : w ≤ 32) where
  lowest : ℕ
  lowest = t % 2 ^ w

  lowest-small : lowest < 2 ^ w
  unfolding lowest
  lowest-small = mod-lt t (pow_pos w)

  whole : w + pad w ≡ 8 * tag_size w
  whole = omega (arith, few)

  -- Its lowest w bits moved up so that they end a whole number of bytes.
  moved : word (8 * tag_size w) (lowest * 2 ^ pad w) ≡ word w t ++ zeros (pad w)
  unfolding lowest
  moved =
      ap₂ word (sym whole) (sym (add-zero (lowest * 2 ^ pad w)))
      ∙ word-append w (pad w) lowest 0 (pow_pos (pad w))
      ∙ ap₂ ◌++◌ (word_agrees w lowest t (mod-mod t (2 ^ w))) (word-zero (pad w))

  pub tag-number : (accumulator : List Bool) (size : ℕ) → word 64 t ≡ accumulator → size ≡ tag_size w
      → TagNumber w accumulator (t % (1 * 2 ^ w % 2 ^ 64) * 2 ^ (size * 8 - w) % 2 ^ 64)
  unfolding lowest
  tag-number accumulator size e sized =
      subst (TagNumber w accumulator)
      (sym (ap₂ (λ (d k : ℕ). t % d * 2 ^ k % 2 ^ 64) (one_up w (omega (arith, few))) same-pad ∙ shl_exact w (pad w) 64 lowest-small (omega (arith, whole))))
      record { small = subst (λ (k : ℕ). lowest * 2 ^ pad w < 2 ^ k) whole (shl_lt w (pad w) lowest-small); tagged = moved ∙ ap (λ (s : List Bool). s ++ zeros (pad w)) (sym last) }
    where
      same-pad : size * 8 - w ≡ pad w
      same-pad = omega (arith, sized)

      full : 64 - w + w ≡ 64
      full = omega (arith, few)

      last : drop (64 - w) accumulator ≡ word w t
      last = ap (drop (64 - w)) (sym e ∙ ap (λ (k : ℕ). word k t) (sym full)) ∙ word-drop (64 - w) w t
