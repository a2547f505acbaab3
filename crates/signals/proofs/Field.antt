-- The bits of a signal, read from the number that the bytes around it spell.
-- Assumes nothing.
use mathlib.Core.Path.{◌≡◌, ap, ap₂, ◌∙◌}
use mathlib.Core.Bool.{Bool, false}
use mathlib.Core.List.{List}
use Prim.Native.Nat.{ℕ, ◌+◌, ◌-◌, ◌*◌, ◌/◌, ◌%◌, ◌^◌, ◌<◌, ◌≤◌}
use native.Mathlib.Nat.{lt_of_lt_of_le, mod-eq_of_lt}
use native.Mathlib.Omega.{arith}
use lib.ListN.{length, take, drop, length-drop}
use lib.Pow.{pow_mono}
use lib.Seq.{length-take-le, drop-drop}
use Rattle.std.specs.Int.{div_ceil}
use Rattle.bits.specs.Bytes.{value, bits}
use Rattle.bits.proofs.Packing.{length-bits}
use Rattle.bits.proofs.Parts.{value-part, bits-part, part-within}
use Rattle.bits.proofs.Word.{one_up, value_bound}
use Rattle.signals.specs.Raw.{misplaced, field}
use Rattle.signals.proofs.Placed.{placed}

-- The bytes that a signal lies in: from `first` up to, not including, `last`.
abbrev pub first : (start : ℕ) → ℕ
first start = start / 8

abbrev pub last : (start width : ℕ) → ℕ
last start width = div_ceil (start + width) 8

abbrev pub around : (message : List ℕ) (start width : ℕ) → List ℕ
around message start width = take (last start width - first start) (drop (first start) message)

module _ (message : List ℕ) (start width : ℕ) (at : misplaced (length message) start width ≡ false) where
  pub last-inside : last start width ≤ length message
  last-inside = let h = placed (length message) start width at in omega arith

  length-around : length (bits (around message start width)) ≡ 8 * (last start width - first start)
  length-around =
      length-bits (around message start width)
      ∙ ap (λ (n : ℕ). 8 * n) (length-take-le (last start width - first start) (drop (first start) message) (omega (arith, last-inside, length-drop (first start) message)))

  around-small : value (bits (around message start width)) < 2 ^ 64
  around-small =
      let h = placed (length message) start width at in
      lt_of_lt_of_le (value_bound (bits (around message start width))) (pow_mono {j = 64} (omega (arith, length-around)))

  field-around : take width (drop (start % 8) (bits (around message start width))) ≡ field message start width
  field-around =
      let whole : 8 * first start + start % 8 ≡ start = omega arith in
      ap (λ (s : List Bool). take width (drop (start % 8) s)) (bits-part (first start) (last start width - first start) message)
      ∙ part-within (drop (8 * first start) (bits message)) (8 * (last start width - first start)) (start % 8) width (omega arith)
      ∙ ap (take width) (drop-drop (start % 8) (8 * first start) (bits message))
      ∙ ap (λ (n : ℕ). take width (drop n (bits message))) whole

  field-read : value (bits (around message start width)) / 2 ^ (8 * last start width - (start + width)) % 2 ^ width ≡ value (field message start width)
  field-read =
      ap (λ (k : ℕ). value (bits (around message start width)) / 2 ^ k % 2 ^ width) below
      ∙ value-part (bits (around message start width)) (start % 8) width (omega (arith, length-around)) ∙ ap value field-around
    where
      below : 8 * last start width - (start + width) ≡ length (bits (around message start width)) - (start % 8 + width)
      below = omega (arith, length-around)

  -- as a word of 64 bits is shifted and cut
  pub field_cut : (n : ℕ) → n ≡ value (bits (around message start width)) % 2 ^ 64 → n / 2 ^ (8 * last start width - (start + width)) % (1 * 2 ^ width % 2 ^ 64) ≡ value (field message start width)
  field_cut n e =
      ap₂ (λ (a b : ℕ). a / 2 ^ (8 * last start width - (start + width)) % b) (e ∙ mod-eq_of_lt around-small) (one_up width (omega (arith, (placed (length message) start width at).most))) ∙ field-read
