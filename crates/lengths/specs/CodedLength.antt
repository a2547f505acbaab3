-- The coded length of the AD (document 02, C-12), which is the distinguished form of X.690.
use Rattle.std.specs.Prelude.{◌≡◌, ◌≢◌, cond, ◌&&◌, List, [], ◌∷◌, ◌++◌, ℕ, ◌-◌, ◌/◌, ◌%◌, ◌<◌, leb, ltb, length, take, drop}
use Rattle.std.proofs.Math.Option.{Option, none, some}
use Rattle.bits.specs.Bytes.{Bytes, bits, value}

-- The coded length of the AD: up to 127, one byte with that value; from 128 to 255, byte 0x81 and the length in one byte; from 256 up, byte
-- 0x82 and the length in two bytes, high byte first.
unfoldable pub coded_length : ℕ → List ℕ
coded_length n = cond (leb n 127) (n ∷ []) (cond (leb n 255) (0x81 ∷ n ∷ []) (0x82 ∷ n / 256 ∷ n % 256 ∷ []))

-- A length in k bytes, 1 to 126 of them, high byte first, and what stands behind it.
unfoldable pub length_in : (k : ℕ) → List ℕ → Option (ℕ × List ℕ)
length_in k s = cond (ltb 0 k && ltb k 127 && leb k (length s)) (some (value (bits (take k s)), drop k s)) none

-- The coded length at the front of a byte string, in any definite form of X.690 (8.1.3), and what stands behind it: a byte up to 127 is the
-- length itself; byte 0x80 + k has the length behind it in k bytes.
unfoldable pub decoded_length : List ℕ → Option (ℕ × List ℕ)
decoded_length [] = none
decoded_length (b ∷ s) = cond (leb b 127) (some (b, s)) (length_in (b - 0x80) s)

-- The distinguished form of a length (X.690, 10.1) is made of bytes, decodes back to the length whatever stands behind it, and every other
-- form of that length is longer.
pub record Distinguished (n : ℕ) (coded : List ℕ) : Type 0 where
  pub bytes : Bytes coded
  pub decodes : (behind : List ℕ) → decoded_length (coded ++ behind) ≡ some (n, behind)
  pub shortest : (form : List ℕ) → Bytes form → decoded_length form ≡ some (n, []) → form ≢ coded → length coded < length form

-- The coded length is the distinguished form of every length of two bytes at most.
abbrev pub DistinguishedLengths : Type 0
DistinguishedLengths = (n : ℕ) → n < 65536 → Distinguished n (coded_length n)
