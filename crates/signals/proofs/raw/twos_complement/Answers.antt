-- `signals::raw::twos_complement` meets its contract.
use mathlib.Core.Path.{◌≡◌, sym, ap₂, ◌∙◌}
use Prim.Native.Nat.{ℕ, ◌-◌, ◌*◌, ◌%◌, ◌^◌, ◌≤◌, ◌<◌}
use native.Mathlib.Nat.{mod-le, lt_of_lt_of_le, lt_of_le_of_lt}
use native.Mathlib.Omega.{arith}
use lib.Pow.{pow_mono}
use lib.IntN.{pos, ◌-ℤ◌}
use mir.Syntax.{w64}
use mir.ValLaws.{to_z-of_z}
use Rattle.bits.specs.Bytes.{word, value}
use Rattle.bits.proofs.Word.{length-word, one_up, value-word-small}
use Rattle.signals.proofs.Difference.{as_signed, signed_fits}
use Rattle.signals.proofs.Complement.{twos_complement_lem}
use Rattle.signals.proofs.raw.twos_complement.Goals as goal

-- The bits below the top bit, as the code has them, and the top bit.
abbrev rest : (n width : ℕ) → ℕ
rest n width = n % (1 * 2 ^ (width - 1) % 2 ^ 64)

abbrev top : (n width : ℕ) → ℕ
top n width = n - rest n width

rest_le : (n width : ℕ) → rest n width ≤ n
rest_le n width = mod-le n (1 * 2 ^ (width - 1) % 2 ^ 64)

number_small : (n width : ℕ) → width ≤ 32 → n < 2 ^ width → n < 2 ^ 32
number_small n width most less = lt_of_lt_of_le less (pow_mono {j = 32} most)

rest_small : (n width : ℕ) → width ≤ 32 → n < 2 ^ width → rest n width < 2 ^ 32
rest_small n width most less = lt_of_le_of_lt (rest_le n width) (number_small n width most less)

top_small : (n width : ℕ) → width ≤ 32 → n < 2 ^ width → top n width < 2 ^ 32
top_small n width most less = let h = number_small n width most less in omega arith

pub returns : goal.returns
returns c =
    let n = c.args.n in
    let width = c.args.width in
    let low = rest_small n width c.requires.1 c.requires.2 in
    let high = top_small n width c.requires.1 c.requires.2 in
    let spelled : value (word width n) ≡ n = value-word-small width n c.requires.2 in
    let halved : 1 * 2 ^ (width - 1) % 2 ^ 64 ≡ 2 ^ (width - 1) = one_up (width - 1) (omega (arith, c.requires.1)) in
    to_z-of_z w64 _ (signed_fits (rest n width) (top n width) low high)
    ∙ as_signed (rest n width) (top n width) low high
    ∙ sym (twos_complement_lem (word width n) width (length-word width n) c.requires.0 ∙ ap₂ (λ (v k : ℕ). pos (v % k) -ℤ pos (v - v % k)) spelled (sym halved))
