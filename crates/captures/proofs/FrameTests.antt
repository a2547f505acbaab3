-- The tests of a frame's body, one after the other.
-- Assumes nothing.
use Rattle.std.proofs.Common.{◌≡◌, ℕ, ◌+◌, ◌<◌, ◌≤◌, false, eqb, List, length, arith, le-ltb, lt-ltb, ne_eqb}
use mathlib.Core.Bool.{and-false}
use Rattle.length_codes.specs.LengthCodes.{coded_length}
use Rattle.captures.specs.Layout.{identifier_limit, number, identifier_part, code_part, is_frame}

pub frame-short : (body : List ℕ) → length body < 17 → is_frame body ≡ false
unfolding is_frame
frame-short body short = simp (ne_eqb (length body) (17 + coded_length (number (code_part body))) (λ e. omega arith), and-false)

pub frame-identifier : (body : List ℕ) → identifier_limit ≤ number (identifier_part body) → is_frame body ≡ false
unfolding is_frame
frame-identifier body large = simp (le-ltb _ _ large)

pub frame-code : (body : List ℕ) → number (identifier_part body) < identifier_limit → 15 < number (code_part body) → is_frame body ≡ false
unfolding is_frame
frame-code body legal large = simp (lt-ltb _ _ legal, le-ltb (number (code_part body)) 16 (omega arith))

pub frame-coded : (body : List ℕ) → number (identifier_part body) < identifier_limit → number (code_part body) ≤ 15
    → is_frame body ≡ eqb (length body) (17 + coded_length (number (code_part body)))
unfolding is_frame
frame-coded body legal small = simp (lt-ltb _ _ legal, lt-ltb (number (code_part body)) 16 (omega arith))
