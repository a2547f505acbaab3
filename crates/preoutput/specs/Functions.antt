-- The functions of the pre-output generator (source document 000, section 2.1; document 01, "The two registers").
-- s gives the content of each place of the LFSR, b that of the NFSR.
use Rattle.std.specs.Prelude.{ℕ}
use Rattle.generators.specs.Algebra.{Algebra, single}
use Rattle.generators.specs.Functions.{Functions}

module _ {A : Type 0} (over : Algebra A) where
  open over use {sum as ◌⊻◌, product as ◌·◌}

  infixl 60 ◌⊻◌
  infixl 70 ◌·◌
  abbrev pub L : (ℕ → A) → A
  L s = s 0 ⊻ s 7 ⊻ s 38 ⊻ s 70 ⊻ s 81 ⊻ s 96

  abbrev pub F : (ℕ → A) → A
  F b =
      b 0 ⊻ b 26 ⊻ b 56 ⊻ b 91 ⊻ b 96
      ⊻ b 3 · b 67 ⊻ b 11 · b 13 ⊻ b 17 · b 18 ⊻ b 27 · b 59 ⊻ b 40 · b 48 ⊻ b 61 · b 65 ⊻ b 68 · b 84
      ⊻ b 22 · b 24 · b 25 ⊻ b 70 · b 78 · b 82
      ⊻ b 88 · b 92 · b 93 · b 95

  abbrev pub h : (s b : ℕ → A) → A
  h s b = b 12 · s 8 ⊻ s 13 · s 20 ⊻ b 95 · s 42 ⊻ s 60 · s 79 ⊻ b 12 · b 95 · s 94

  -- The pre-output.
  abbrev pub y : (s b : ℕ → A) → A
  y s b = h s b ⊻ s 93 ⊻ b 2 ⊻ b 15 ⊻ b 36 ⊻ b 45 ⊻ b 64 ⊻ b 73 ⊻ b 89

  abbrev pub functions : Functions over
  functions = record { linear = L; nonlinear = F; output = y }

-- The functions of the Grain ciphers with 128 places, on single bits.
abbrev pub grain128 : Functions single
grain128 = functions single
