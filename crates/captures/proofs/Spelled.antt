-- Numbers there and back: `number` and `spelled` undo one another.
-- Assumes nothing.
use Rattle.std.proofs.Common.{◌≡◌, ℕ, ◌*◌, ◌%◌, ◌^◌, ◌<◌, List, length, sym, ap, ◌∙◌}
use Rattle.bits.specs.Bytes.{word, value, Bytes, bits, bytes}
use Rattle.bits.proofs.Packing.{bits-bytes, bytes_bits, length-bits, length-bytes}
use Rattle.bits.proofs.Word.{value-word, word_value, value_bound, length-word}
use Rattle.captures.specs.Layout.{number}
use Rattle.captures.specs.Content.{spelled}

-- A number that is spelled in n bytes comes back, up to multiples of 256 ^ n.
pub number_spelled : (n x : ℕ) → number (spelled n x) ≡ x % 2 ^ (8 * n)
unfolding number spelled
number_spelled n x = ap value (bits-bytes n (word (8 * n) x) (length-word (8 * n) x)) ∙ value-word (8 * n) x

-- Bytes that spell a number are spelled by it.
pub spelled-number : (n : ℕ) (s : List ℕ) → length s ≡ n → Bytes s → spelled n (number s) ≡ s
unfolding number spelled
spelled-number n s e h =
    ap (λ (m : ℕ). bytes m (word (8 * m) (value (bits s)))) (sym e)
    ∙ ap (bytes (length s)) (ap (λ (m : ℕ). word m (value (bits s))) (sym (length-bits s)) ∙ word_value (bits s))
    ∙ bytes_bits s h

pub length-spelled : (n x : ℕ) → length (spelled n x) ≡ n
unfolding spelled
length-spelled n x = length-bytes n (word (8 * n) x)

-- As many bytes as there are bound the number.
pub number_bound : (s : List ℕ) → number s < 2 ^ (8 * length s)
unfolding number
number_bound s = rw length-bits at (value_bound (bits s))
