-- Several bits of the string at once, on words.
-- Assumes nothing.
use mathlib.Core.Path.{◌≡◌, sym, ap, ap₂, subst, ◌∙◌}
use mathlib.Core.Bool.{Bool}
use mathlib.Core.List.{List}
use Prim.Native.Nat.{ℕ, zero, suc, ◌+◌, ◌-◌, ◌*◌, ◌/◌, ◌%◌, ◌^◌, ◌<◌, ◌≤◌}
use native.Mathlib.Nat.{le_of_eq, lt_of_lt_of_le, zero-add, suc-add, mul_assoc, add-sub_of_le, mul-add-div_right, div-one, mod-lt, mod-mod}
use native.Mathlib.Numerals.{add-one}
use native.Mathlib.Omega.{arith}
use lib.Bits.{bit_xor, bit_or, xor_shifted}
use lib.Dec.{lit<, lit≤}
use lib.ListN.{length}
use lib.Pow.{pow_pos, pow-add, pow_mono, high, shr-shr, shl-shr, shr_lt, shl_lt}
use Rattle.bits.specs.Bytes.{word, bit}
use Rattle.bits.specs.Strings.{◌⊞◌, shift, places}
use Rattle.bits.proofs.Lowest.{word-xor}
use Rattle.bits.proofs.Moved.{down, word-down, down-zeros, down-sum, shift_half, word-or}
use Rattle.bits.proofs.Sum.{sum_assoc}
use Rattle.bits.proofs.Word.{length-word, word_low, word_agrees}
use Rattle.authenticator.specs.declared.Tagger.{Tagger}
use Rattle.authenticator.specs.Authenticator.{Sized, absorb_all, register_after}
use Rattle.authenticator.specs.ClosedForm.{registers_at}
use Rattle.authenticator.specs.Words.{authenticator_of}
use Rattle.authenticator.proofs.ClosedForm.{closed_form, independent}
use Rattle.authenticator.proofs.Linear.{registers_at-map, registers_at_plus}
use Rattle.authenticator.proofs.Table.{ups}

-- Register and new bits are one word: after i moves the register is the part of it above the d bits that are still to come.
register_after-word : (w d x i : ℕ) → register_after (word (suc w) (x / 2 ^ (i + d))) (places (word (i + d) x)) i ≡ word (suc w) (x / 2 ^ d)
unfolding register_after word
register_after-word w d x zero = ap (λ (n : ℕ). word (suc w) (x / 2 ^ n)) (zero-add d)
register_after-word w d x (suc i) =
    ap (λ (n : ℕ). register_after (word (suc w) (x / 2 ^ n)) (places (word n x)) (suc i)) (suc-add i d)
    ∙ ap (λ (r : List Bool). register_after r (places (word (i + d) x)) i)
    (ap (λ (y : ℕ). shift (word (suc w) y) (bit (i + d) x)) (ap (λ (n : ℕ). x / 2 ^ n) (sym (add-one (i + d))) ∙ sym (shr-shr x (i + d) 1)) ∙ shift_half w (x / 2 ^ (i + d)))
    ∙ register_after-word w d x i

register_after-words : (w d r low i : ℕ) → low < 2 ^ (i + d) → register_after (word (suc w) r) (places (word (i + d) low)) i ≡ word (suc w) (r * 2 ^ i + low / 2 ^ d)
register_after-words w d r low i h =
    ap₂ (λ (y : ℕ) (s : List Bool). register_after (word (suc w) y) (places s) i) (sym (high r (i + d) h)) (sym (word_low (i + d) r low))
    ∙ register_after-word w d (r * 2 ^ (i + d) + low) i
    ∙ ap (word (suc w)) (ap (λ (y : ℕ). (y + low) / 2 ^ d) (ap (λ (p : ℕ). r * p) (pow-add 2 i d) ∙ sym (mul_assoc r (2 ^ i) (2 ^ d))) ∙ mul-add-div_right (pow_pos d) (r * 2 ^ i) low)

-- It is the register moved up, plus the new bits moved up and then n places down.
register_after-sum : (w n r low i : ℕ) → low < 2 ^ n → i ≤ n → n + i ≤ suc w
    → register_after (word (suc w) r) (places (word n low)) i ≡ ups (suc w) r i ⊞ down (suc w) n (ups (suc w) low i)
register_after-sum w n r low i h le fits =
    subst (λ (k : ℕ). low < 2 ^ k → register_after (word (suc w) r) (places (word k low)) i ≡ ups (suc w) r i ⊞ word (suc w) (low * 2 ^ i / 2 ^ k)) (add-sub_of_le le)
    (λ small. register_after-words w d r low i small ∙ ap (word (suc w)) (sym (xor_shifted r i (low / 2 ^ d) (shr_lt i d small))) ∙ word-xor (suc w) (r * 2 ^ i) (low / 2 ^ d)
    ∙ ap (λ (y : ℕ). ups (suc w) r i ⊞ word (suc w) y) (ap (λ (y : ℕ). y / 2 ^ d) (sym (shl-shr low i)) ∙ shr-shr (low * 2 ^ i) i d)) h
    ∙ ap (λ (s : List Bool). ups (suc w) r i ⊞ s) (word-down (suc w) n (low * 2 ^ i) (lt_of_lt_of_le (shl_lt n i h) (pow_mono fits)))
  where
    d : ℕ
    d = n - i

-- What a string of at most n places adds, the register moved up and the new bits moved up each by themselves.
registers-sum : (w n r low : ℕ) (s : List Bool) → low < 2 ^ n → length s ≤ n → n + n ≤ suc w
    → registers_at (suc w) (register_after (word (suc w) r) (places (word n low))) 0 s ≡ registers_at (suc w) (ups (suc w) r) 0 s ⊞ down (suc w) n (registers_at (suc w) (ups (suc w) low) 0 s)
registers-sum w n r low s h short fits =
    registers_at_plus (suc w) (register_after (word (suc w) r) (places (word n low))) (ups (suc w) r) (λ j. down (suc w) n (ups (suc w) low j)) 0 s
    (λ j l. register_after-sum w n r low j h (omega arith) (omega arith))
    ∙ ap (λ (t : List Bool). registers_at (suc w) (ups (suc w) r) 0 s ⊞ t)
    (sym (registers_at-map (suc w) (suc w) (down (suc w) n) (down-zeros (suc w) n) (down-sum (suc w) n) (ups (suc w) low) 0 s))

pub absorb-at-once : (t : Tagger) (m new p q : ℕ)
    → word 64 p ≡ registers_at 64 (ups 64 t.register) 0 (word 32 m)
    → word 64 q ≡ registers_at 64 (ups 64 (new % 2 ^ 32)) 0 (word 32 m) → q < 2 ^ 64
    → authenticator_of record { accumulator = bit_xor (bit_xor t.accumulator p) (q / 2 ^ 32); register = bit_or (t.register * 2 ^ 32 % 2 ^ 64) (new % 2 ^ 32) }
    ≡ absorb_all (authenticator_of t) (word 32 m) (places (word 32 new))
unfolding authenticator_of
absorb-at-once t m new p q ep eq small =
    (λ i. record { accumulator = added i; register = moved i })
    ∙ ap (λ (s : List Bool). absorb_all (authenticator_of t) (word 32 m) (places s)) (word_agrees 32 (new % 2 ^ 32) new (mod-mod new (2 ^ 32)))
  where
    low : ℕ
    low = new % 2 ^ 32

    h : low < 2 ^ 32
    h = mod-lt new (pow_pos 32)

    sized : Sized 64 (authenticator_of t)
    sized = record { accumulator = length-word 64 t.accumulator; register = length-word 64 t.register }

    added : word 64 (bit_xor (bit_xor t.accumulator p) (q / 2 ^ 32)) ≡ (absorb_all (authenticator_of t) (word 32 m) (places (word 32 low))).accumulator
    added =
        word-xor 64 (bit_xor t.accumulator p) (q / 2 ^ 32)
        ∙ ap₂ ◌⊞◌ (word-xor 64 t.accumulator p ∙ ap (λ (s : List Bool). word 64 t.accumulator ⊞ s) ep) (word-down 64 32 q small ∙ ap (down 64 32) eq)
        ∙ sum_assoc (word 64 t.accumulator) (registers_at 64 (ups 64 t.register) 0 (word 32 m)) (down 64 32 (registers_at 64 (ups 64 low) 0 (word 32 m)))
        ∙ ap (λ (s : List Bool). word 64 t.accumulator ⊞ s) (sym (registers-sum 63 32 t.register low (word 32 m) h (le_of_eq (length-word 32 m)) (lit≤ tt)))
        ∙ sym (closed_form 64 (authenticator_of t) (word 32 m) (places (word 32 low)) (lit< tt) sized)

    moved : word 64 (bit_or (t.register * 2 ^ 32 % 2 ^ 64) low) ≡ (absorb_all (authenticator_of t) (word 32 m) (places (word 32 low))).register
    moved =
        word-or 32 32 t.register low h ∙ ap (λ (y : ℕ). word 64 (t.register * 2 ^ 32 + y)) (sym (div-one low))
        ∙ sym (register_after-words 63 0 t.register low 32 h)
        ∙ ap (register_after (word 64 t.register) (places (word 32 low))) (sym (length-word 32 m))
        ∙ sym (independent (authenticator_of t) (word 32 m) (places (word 32 low)))
