-- A field put together from its three parts, taken apart again, and flipped part by part.
-- Assumes nothing.
use mathlib.Core.Path.{◌≡◌, refl, sym, ap, ap₂, ◌∙◌}
use mathlib.Core.Logic.{◌≢◌}
use mathlib.Core.Bool.{Bool}
use mathlib.Core.List.{List, [], ◌∷◌, ◌++◌}
use Prim.Native.Nat.{ℕ, ◌+◌, ◌*◌, ◌<◌}
use native.Mathlib.Omega.{arith}
use lib.ListN.{length, drop, take-append-drop}
use lib.Seq.{take_at, drop_at, drop-cons, drop-drop}
use Rattle.bits.specs.Bytes.{Bytes}
use Rattle.bits.specs.Strings.{zeros}
use Rattle.bits.proofs.Flip.{Flips, flip-none}
use Rattle.machine.specs.declared.edition.Edition.{Edition}
use Rattle.startup.specs.Editions.{ordered, flip_in}
use Rattle.startup.proofs.Order.{length-ordered, ordered-bytes, ordered_twice, flip_in-append}
use Rattle.frame_checks.specs.Layout.{announced, sealed_part, filler}

-- M, ciphertext and tag, filler.
abbrev pub joined : ℕ → (sealed filler : List ℕ) → List ℕ
joined m s z = (m ∷ s) ++ z

module _ (m : ℕ) (s z : List ℕ) (long : length s ≡ m + 8) where
  pub joined-sealed : sealed_part (joined m s z) ≡ s
  joined-sealed = take_at s z (m + 8) long

  pub joined-filler : filler (joined m s z) ≡ z
  joined-filler =
      let whole : length (m ∷ s) ≡ m + 9 = omega (arith, long) in
      drop_at (m ∷ s) z (m + 9) whole

-- A field that is not empty is its three parts.
pub parted : (field : List ℕ) → length field ≢ 0 → field ≡ joined (announced field) (sealed_part field) (filler field)
parted field some =
    let inside : 0 < length field = omega (arith, nonzero (length field) some) in
    let next : 1 + (announced field + 8) ≡ announced field + 9 = omega arith in
    drop-cons field 0 0 inside
    ∙ ap (λ (s : List ℕ). announced field ∷ s)
    (sym (take-append-drop (announced field + 8) (drop 1 field)) ∙ ap (λ (s : List ℕ). sealed_part field ++ s) (drop-drop (announced field + 8) 1 field ∙ ap (λ (k : ℕ). drop k field) next))
  where
    nonzero : (n : ℕ) → n ≢ 0 → 0 < n
    nonzero n h = omega (arith, h)

-- Where nothing is flipped, bytes are as they were.
pub flip_in-none : (e : Edition) (s : List ℕ) (n : ℕ) → Bytes s → n ≡ 8 * length s → flip_in e s (zeros n) ≡ s
unfolding flip_in
flip_in-none e s n b h =
    ap (ordered e) (flip-none (ordered e s) n (ordered-bytes e s b) (h ∙ ap (λ (k : ℕ). 8 * k) (sym (length-ordered e s)))) ∙ ordered_twice e s b

-- Flips behind M.
pub flipped-behind : (e : Edition) (m : ℕ) (s z : List ℕ) (d f : List Bool) → Bytes (m ∷ []) → Flips s d
    → flip_in e (joined m s z) (zeros 8 ++ (d ++ f)) ≡ joined m (flip_in e s d) (flip_in e z f)
flipped-behind e m s z d f b h =
    flip_in-append e (m ∷ []) (s ++ z) (zeros 8) (d ++ f) refl
    ∙ ap₂ (λ (x y : List ℕ). x ++ y) (flip_in-none e (m ∷ []) 8 b refl) (flip_in-append e s z d f h)
