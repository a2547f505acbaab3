-- Windows of a register, from its words.
-- Assumes nothing.
use mathlib.Core.Path.{◌≡◌, sym, ap, ◌∙◌}
use mathlib.Core.Bool.{Bool, false}
use mathlib.Core.List.{List}
use Prim.Native.Nat.{ℕ, suc, ◌+◌, ◌-◌, ◌/◌, ◌^◌, ◌<◌, ◌≤◌}
use native.Mathlib.Omega.{arith}
use lib.ListN.{take, drop}
use lib.Pow.{shr-shr}
use lib.Seq.{get_or-drop, get_or-take}
use Rattle.bits.specs.Bytes.{lowest, bit, word}
use Rattle.bits.specs.Strings.{places}
use Rattle.bits.proofs.Word.{get_or-word}

-- A window from a word that has 64 places, those from a on.
pub window-place : (r : List Bool) (w a k m i : ℕ) → word 64 w ≡ take 64 (drop a r) → a ≤ k → k + m ≤ a + 64 → i < m → bit (m - suc i) (w / 2 ^ (a + 64 - m - k)) ≡ places r (k + i)
window-place r w a k m i e low high h =
    ap lowest (shr-shr w (a + 64 - m - k) (m - suc i)) ∙ ap (λ (n : ℕ). bit n w) (omega arith) ∙ sym (get_or-word 64 w (k - a + i) (omega arith))
    ∙ ap (λ (s : List Bool). places s (k - a + i)) e ∙ get_or-take 64 (drop a r) (k - a + i) false (omega arith)
    ∙ get_or-drop a r (k - a + i) false ∙ ap (places r) (omega arith)
