-- Parts that lie apart: where one of them lies, and that none has two numbers.
-- Assumes nothing.
use Rattle.std.proofs.Common.{◌≡◌, ℕ, zero, suc, ◌+◌, ◌<◌, ◌≤◌, List, [], ◌∷◌, ◌++◌, refl, ap, arith}
use Rattle.captures.specs.declared.Part.{Part}
use Rattle.std.specs.Prelude.{Ok}
use Rattle.std.specs.List.{AllByRecursion}
use Rattle.captures.specs.Calls.{numbered}
use Rattle.captures.specs.Listing.{Apart}

apart-ordered : (from to : ℕ) (ps : List Part) → Apart from to ps → from ≤ to
unfolding Apart
apart-ordered from to [] h = h
apart-ordered from to (p ∷ ps) h = omega (arith, h.0, apart-ordered (p.start + p.size) to ps h.1)

pub numbered-ends : (from to : ℕ) (ps : List Part) (n : ℕ) (p : Part) → Apart from to ps → numbered ps n ≡ Ok p → p.start + p.size ≤ to
unfolding Apart numbered
numbered-ends from to [] n p h e = let z : ◌≡◌ {A = ℕ} 0 1 = cc in absurd (omega arith)
numbered-ends from to (q ∷ ps) zero p h e =
    let same : q ≡ p = cc in
    rw (← same) (apart-ordered (q.start + q.size) to ps h.1)
numbered-ends from to (q ∷ ps) (suc n) p h e = numbered-ends (q.start + q.size) to ps n p h.1 e

numbered_begins : (from to : ℕ) (ps : List Part) (n : ℕ) (p : Part) → Apart from to ps → numbered ps n ≡ Ok p → from ≤ p.start
unfolding Apart numbered
numbered_begins from to [] n p h e = let z : ◌≡◌ {A = ℕ} 0 1 = cc in absurd (omega arith)
numbered_begins from to (q ∷ ps) zero p h e =
    let same : q ≡ p = cc in
    rw (← same) h.0
numbered_begins from to (q ∷ ps) (suc n) p h e = omega (arith, h.0, numbered_begins (q.start + q.size) to ps n p h.1 e)

-- Each part has a byte or more.
abbrev pub EachLong : List Part → Type 0
EachLong = AllByRecursion (λ p. 0 < p.size)

-- What holds of each of two lists holds of each of both.
pub each_append : {X : Type 0} (P : X → Type 0) (xs ys : List X) → AllByRecursion P xs → AllByRecursion P ys → AllByRecursion P (xs ++ ys)
each_append P [] ys h k = k
each_append P (x ∷ xs) ys h k = (h.0, each_append P xs ys h.1 k)

-- A part that has a byte is not found again behind where it ends.
not_behind : (to : ℕ) (q : Part) (ps : List Part) (n : ℕ) (p : Part) → Apart (q.start + q.size) to ps → 0 < q.size → q ≡ p → numbered ps n ≡ Ok p → ⊥
not_behind to q ps n p h long e f =
    omega (arith, ap (λ (x : Part). x.start) e, numbered_begins (q.start + q.size) to ps n p h f)

pub numbered-once : (from to : ℕ) (ps : List Part) → Apart from to ps → EachLong ps → (m n : ℕ) (p : Part) → numbered ps m ≡ Ok p → numbered ps n ≡ Ok p → m ≡ n
unfolding Apart numbered
numbered-once from to [] h long m n p e f = let z : ◌≡◌ {A = ℕ} 0 1 = cc in absurd (omega arith)
numbered-once from to (q ∷ ps) h long zero zero p e f = refl
numbered-once from to (q ∷ ps) h long zero (suc n) p e f = absurd (not_behind to q ps n p h.1 long.0 (cc) f)
numbered-once from to (q ∷ ps) h long (suc m) zero p e f = absurd (not_behind to q ps m p h.1 long.0 (cc) e)
numbered-once from to (q ∷ ps) h long (suc m) (suc n) p e f = ap suc (numbered-once (q.start + q.size) to ps h.1 long.1 m n p e f)
