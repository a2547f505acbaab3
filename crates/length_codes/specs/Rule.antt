-- The rule of the table: codes rise in known steps, up to 64 bytes, and the smallest code that holds a length is the smallest.
use Rattle.std.specs.Prelude.{◌≡◌, Bool, true, cond, ◌&&◌, ℕ, zero, suc, ◌+◌, ◌-◌, ◌*◌, ◌≤◌, ◌<◌, eqb, leb, ltb}
use Rattle.length_codes.specs.LengthCodes.{coded_length, length_code}

-- Each number below n passes a test.
unfoldable pub below : (n : ℕ) → (ℕ → Bool) → Bool
below zero test = true
below (suc n) test = test n && below n test

-- A code means less than the next.
unfoldable pub rises : (code : ℕ) → Bool
rises code = ltb (coded_length code) (coded_length (suc code))

-- Up to 8 a code means itself, from there to 12 each means four bytes more than the last; 13 means 32, and from there each sixteen more.
unfoldable pub stepped : (code : ℕ) → Bool
stepped code = eqb (coded_length code) (cond (leb code 8) code (cond (leb code 12) (8 + 4 * (code - 8)) (32 + 16 * (code - 13))))

-- No code means more than 64.
unfoldable pub within : (code : ℕ) → Bool
within code = leb (coded_length code) 64

-- The code that is given for a length holds it, and none below does.
unfoldable pub smallest : (n : ℕ) → Bool
smallest n = ltb (length_code n) 16 && (leb n (coded_length (length_code n)) && below (length_code n) (λ code. ltb (coded_length code) n))

-- The rule over the whole table, as one test that computes.
unfoldable pub rule : Bool
rule = below 16 stepped && (below 15 rises && (below 16 within && below 65 smallest))

abbrev pub Ruled : Type 0
Ruled = rule ≡ true

-- What the test tells of lengths and codes.
pub record Table : Type 0 where
  pub rises : (code : ℕ) → code < 15 → coded_length code < coded_length (suc code)
  pub within : (code : ℕ) → code < 16 → coded_length code ≤ 64
  pub is_code : (n : ℕ) → n ≤ 64 → length_code n < 16
  pub holds : (n : ℕ) → n ≤ 64 → n ≤ coded_length (length_code n)
  pub smallest : (n code : ℕ) → n ≤ 64 → code < length_code n → coded_length code < n
