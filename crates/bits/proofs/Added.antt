-- Bytes as a word, with the first places of another added.
-- Assumes nothing.
use mathlib.Core.Path.{◌≡◌, sym, ap, ap₂, ◌∙◌}
use mathlib.Core.List.{List}
use Prim.Native.Nat.{ℕ, ◌+◌, ◌-◌, ◌*◌, ◌/◌, ◌%◌, ◌^◌, ◌≤◌}
use native.Mathlib.Omega.{arith}
use lib.Bits.{bit_xor}
use lib.ListN.{length, take}
use Rattle.bits.specs.Bytes.{word, value, bits, bytes, flip}
use Rattle.bits.specs.Strings.{◌⊞◌}
use Rattle.bits.proofs.Lowest.{word-xor}
use Rattle.bits.proofs.Slides.{word-take}
use Rattle.bits.proofs.Spelling.{spelled}

pub places-added : (s : List ℕ) (n k : ℕ) → length s ≤ 8 → n ≡ value (bits s) % 2 ^ 64
    → bytes (length s) (word (8 * length s) (bit_xor n (k / 2 ^ (64 - 8 * length s)))) ≡ flip s (take (8 * length s) (word 64 k))
unfolding flip
places-added s n k h e =
    let whole : 8 * length s + (64 - 8 * length s) ≡ 64 = omega arith in
    ap (bytes (length s))
    (word-xor (8 * length s) n (k / 2 ^ (64 - 8 * length s))
    ∙ ap₂ ◌⊞◌ (spelled s n h e) (sym (word-take (8 * length s) (64 - 8 * length s) k) ∙ ap (λ (m : ℕ). take (8 * length s) (word m k)) whole))
