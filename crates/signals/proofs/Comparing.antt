-- How doubles compare: of finite ones, if x is not below y then y is at most x; if x is at most y then y is not below x; and what is above a high limit is not below the low one.
-- And that the library and std mean the same by finite.
-- Assumes nothing.
use mathlib.Core.Path.{◌≡◌, refl, ap₂, ◌∙◌}
use mathlib.Core.Bool.{Bool, true, false, false≢true, ◌||◌, and-eq-true_iff}
use Prim.Native.Nat.{ℕ, ◌+◌, ◌*◌, ◌<◌, ◌≤◌}
use native.Mathlib.Omega.{arith}
use borrow.Author.Tests.{ltb-true, ltb-false, eqb-true, le-ltb, eq-eqb}
use lib.Dec.{ltb, eqb}
use lib.Ieee.{Float, nan, inf, fin, up, down, below, level, lt, le}
use lib.Ieee.Fits.{down_pos}
use lib.Ieee.Positive.{through}
use lib.Ieee.Scale.{finite}
use Rattle.std.specs.Float.{float_is_finite}

-- Two numbers with signs.
level_same : (s : Bool) (a b : ℕ) → a ≡ b → level s a s b ≡ true
level_same true a b e = rw (eq-eqb a b e)
level_same false a b e = rw (eq-eqb a b e)

level_zero : (s t : Bool) (a b : ℕ) → a ≡ 0 → b ≡ 0 → level s a t b ≡ true
level_zero s t a b e f = ap₂ (λ (m n : ℕ). level s m t n) e f ∙ at_zero s t
  where
    at_zero : (s t : Bool) → level s 0 t 0 ≡ true
    at_zero true true = refl
    at_zero true false = refl
    at_zero false true = refl
    at_zero false false = refl

either : (p q : Bool) → (p ≡ false → q ≡ true) → (p || q) ≡ true
either true q h = refl
either false q h = h refl

total : (s : Bool) (a : ℕ) (t : Bool) (b : ℕ) → below s a t b ≡ false → (below t b s a || level t b s a) ≡ true
total false a false b e = either (ltb b a) (level false b false a) (λ f. level_same false b a (omega (arith, ltb-false)))
total false a true b e = either (ltb 0 (b + a)) (level true b false a) (λ f. level_zero true false b a (omega (arith, ltb-false)) (omega (arith, ltb-false)))
total true a false b e = level_zero false true b a (omega (arith, ltb-false)) (omega (arith, ltb-false))
total true a true b e = either (ltb a b) (level true b true a) (λ f. level_same true b a (omega (arith, ltb-false)))

asym : (s : Bool) (a : ℕ) (t : Bool) (b : ℕ) → below s a t b ≡ true → below t b s a ≡ false
asym false a false b e = le-ltb b a (omega (arith, ltb-true))
asym false a true b e = absurd (false≢true e)
asym true a false b e = refl
asym true a true b e = le-ltb a b (omega (arith, ltb-true))

level_not_below : (s : Bool) (a : ℕ) (t : Bool) (b : ℕ) → level s a t b ≡ true → below t b s a ≡ false
level_not_below false a false b e = le-ltb b a (omega (arith, eqb-true a b ((and-eq-true_iff (eqb a b) true).0 e).0))
level_not_below false a true b e = le-ltb 0 (b + a) (omega (arith, eqb-true a b ((and-eq-true_iff (eqb a b) (eqb a 0)).0 e).0, eqb-true a 0 ((and-eq-true_iff (eqb a b) (eqb a 0)).0 e).1))
level_not_below true a false b e = refl
level_not_below true a true b e = le-ltb a b (omega (arith, eqb-true a b ((and-eq-true_iff (eqb a b) true).0 e).0))

not-below : (s : Bool) (a : ℕ) (t : Bool) (b : ℕ) → (below s a t b || level s a t b) ≡ true → below t b s a ≡ false
not-below s a t b = by (below s a t b) (level s a t b) (asym s a t b) (level_not_below s a t b)
  where
    by : (p q : Bool) → (p ≡ true → below t b s a ≡ false) → (q ≡ true → below t b s a ≡ false) → (p || q) ≡ true → below t b s a ≡ false
    by true q f g e = f e
    by false q f g e = g e

zero_scaled : (a c d : ℕ) → 0 < c → a * c ≤ 0 → a * d ≤ 0
zero_scaled a c d h e = through a 0 0 0 c d h (omega arith) (omega arith)

-- Three fractions with signs: l / p, h / q and v / r.
beyond : (s : Bool) (l p : ℕ) (t : Bool) (h q : ℕ) (u : Bool) (v r : ℕ) → 0 < p → 0 < q → below t (h * p) s (l * q) ≡ false → below t (h * r) u (v * q) ≡ true → below u (v * p) s (l * r) ≡ false
beyond false l p false h q false v r pp qp e f = le-ltb (v * p) (l * r) (through l h v p q r qp (omega (arith, ltb-false)) (omega (arith, ltb-true)))
beyond s l p false h q true v r pp qp e f = absurd (false≢true f)
beyond true l p t h q false v r pp qp e f = refl
beyond true l p true h q true v r pp qp e f = le-ltb (l * r) (v * p) (through v h l r q p qp (omega (arith, ltb-true)) (omega (arith, ltb-false)))
beyond false l p true h q false v r pp qp e f = le-ltb (v * p) (l * r) (omega (arith, ltb-false, zero_scaled l q r qp (omega (arith, ltb-false))))
beyond false l p true h q true v r pp qp e f = absurd (omega (arith, ltb-true, zero_scaled h p r pp (omega (arith, ltb-false))))

-- Doubles.
pub le_of_not_lt : (x y : Float) → finite x ≡ true → finite y ≡ true → lt x y ≡ false → le y x ≡ true
unfolding le
le_of_not_lt nan y p q h = absurd (false≢true p)
le_of_not_lt (inf s) y p q h = absurd (false≢true p)
le_of_not_lt (fin s m e) nan p q h = absurd (false≢true q)
le_of_not_lt (fin s m e) (inf t) p q h = absurd (false≢true q)
le_of_not_lt (fin s m e) (fin t n d) p q h = total s (m * up e * down d) t (n * up d * down e) h

pub not_lt_of_le : (x y : Float) → le x y ≡ true → lt y x ≡ false
unfolding le
not_lt_of_le nan y h = absurd (false≢true h)
not_lt_of_le (inf s) nan h = refl
not_lt_of_le (inf true) (inf true) h = refl
not_lt_of_le (inf false) (inf true) h = absurd (false≢true h)
not_lt_of_le (inf s) (inf false) h = refl
not_lt_of_le (inf true) (fin t n d) h = refl
not_lt_of_le (inf false) (fin t n d) h = absurd (false≢true h)
not_lt_of_le (fin s m e) nan h = refl
not_lt_of_le (fin s m e) (inf true) h = absurd (false≢true h)
not_lt_of_le (fin s m e) (inf false) h = refl
not_lt_of_le (fin s m e) (fin t n d) h = not-below s (m * up e * down d) t (n * up d * down e) h

pub not_lt_of_above : (low high v : Float) → finite low ≡ true → finite high ≡ true → finite v ≡ true → lt high low ≡ false → lt high v ≡ true → lt v low ≡ false
unfolding lt
not_lt_of_above nan high v p q r h k = absurd (false≢true p)
not_lt_of_above (inf s) high v p q r h k = absurd (false≢true p)
not_lt_of_above (fin s l c) nan v p q r h k = absurd (false≢true q)
not_lt_of_above (fin s l c) (inf t) v p q r h k = absurd (false≢true q)
not_lt_of_above (fin s l c) (fin t n d) nan p q r h k = absurd (false≢true r)
not_lt_of_above (fin s l c) (fin t n d) (inf u) p q r h k = absurd (false≢true r)
not_lt_of_above (fin s l c) (fin t n d) (fin u m e) p q r h k =
    beyond s (l * up c) (down c) t (n * up d) (down d) u (m * up e) (down e) (down_pos c) (down_pos d) h k

pub finite_is : (x : Float) → float_is_finite x ≡ finite x
unfolding float_is_finite
finite_is nan = refl
finite_is (inf s) = refl
finite_is (fin s m e) = refl

-- What std answered tells whether a double is finite.
pub finite_answered : (x : Float) {r b : Bool} → r ≡ float_is_finite x → r ≡ b → finite x ≡ b
finite_answered x e f = cc (finite_is x)
