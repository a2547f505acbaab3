-- A whole number of at most 2 ^ 53 in size is a double of its very value. With usable numbers the value made of it is no NaN, so its bits tell it.
-- Assumes nothing.
use mathlib.Core.Path.{◌≡◌, refl, ap, sym, subst, ◌∙◌}
use mathlib.Core.Logic.{◌⊎◌, inl, inr}
use mathlib.Core.Bool.{Bool, true, false, true≢false, false≢true, not, ◌&&◌, cond, beq}
use Prim.Native.Nat.{ℕ, zero, suc, ◌+◌, ◌-◌, ◌*◌, ◌^◌}
use lib.Dec.{T, ltb, leb→le, ltb→lt}
use lib.IntN.{ℤ, pos, negsuc}
use lib.Ieee.{Float, nan, inf, fin, Format, binary64, prec, emax, low, up, down, unlike, odd, units, round, sum, add, mul, of_int, in_float, is_nan}
use lib.Ieee.Back.{round_whole}
use lib.Ieee.Bits.{of_bits-to_bits}
use lib.Ieee.Exact.{HasValue}
use lib.Ieee.Fits.{round_is, add-fits}
use lib.Ieee.Scale.{finite}
use Rattle.signals.specs.declared.Scaling.{Scaling}
use Rattle.signals.specs.Values.{unusable, value_of}
use Rattle.signals.specs.Judged.{Exact, Told}
use Rattle.signals.proofs.Usable.{usable}

pub exact : (n : ℤ) → T (in_float binary64 n) → Exact n
unfolding of_int in_float
exact (pos n) t = round_whole binary64 false n (leb→le n (2 ^ 53) t)
exact (negsuc n) t = round_whole binary64 true (suc n) (ltb→lt n (2 ^ 53) t)

value_finite : (x : Float) (s : Bool) (a c : ℕ) → HasValue x s a c → finite x ≡ true
value_finite nan s a c h = absurd h
value_finite (inf t) s a c h = absurd h
value_finite (fin t m e) s a c h = refl

whole_finite : (n : ℤ) → T (in_float binary64 n) → finite (of_int binary64 n) ≡ true
whole_finite (pos n) t = value_finite (of_int binary64 (pos n)) false n 1 (exact (pos n) t)
whole_finite (negsuc n) t = value_finite (of_int binary64 (negsuc n)) true (suc n) 1 (exact (negsuc n) t)

cond_no_nan : (b : Bool) (x y : Float) → is_nan x ≡ false → is_nan y ≡ false → is_nan (cond b x y) ≡ false
cond_no_nan true x y p q = p
cond_no_nan false x y p q = q

odd_no_nan : (d : ℕ) (s : Bool) (q k l : ℕ) → is_nan (odd d s q k l) ≡ false
unfolding odd is_nan
odd_no_nan d s zero k l = refl
odd_no_nan d s (suc q) k l = refl

units_no_nan : (f : Format) (s : Bool) (q k : ℕ) → is_nan (units f s q k) ≡ false
unfolding units is_nan
units_no_nan f s q k = cond_no_nan (ltb (q * 2 ^ k) (2 ^ (low f + suc (emax f)))) _ (inf s) (odd_no_nan (suc (prec f)) s q k (low f)) refl

round_no_nan : (f : Format) (s : Bool) (a c : ℕ) → is_nan (round f s a c) ≡ false
round_no_nan f s a c = ap is_nan (round_is f s a c) ∙ units_no_nan f s _ _

sum_no_nan : (f : Format) (s : Bool) (a : ℕ) (t : Bool) (b c : ℕ) → is_nan (sum f s a t b c) ≡ false
unfolding sum
sum_no_nan f s a t b c =
    cond_no_nan (beq s t) _ _ (round_no_nan f s (a + b) c) (cond_no_nan (ltb a b) _ _ (round_no_nan f t (b - a) c) (round_no_nan f (s && ltb b a) (a - b) c))

mul_no_nan : (f : Format) (x y : Float) → finite x ≡ true → finite y ≡ true → is_nan (mul f x y) ≡ false
unfolding mul
mul_no_nan f nan y p q = absurd (false≢true p)
mul_no_nan f (inf s) y p q = absurd (false≢true p)
mul_no_nan f (fin s m e) nan p q = absurd (false≢true q)
mul_no_nan f (fin s m e) (inf t) p q = absurd (false≢true q)
mul_no_nan f (fin s m e) (fin t n d) p q = round_no_nan f (unlike s t) (m * up e * (n * up d)) (down e * down d)

add_no_nan : (f : Format) (x y : Float) → is_nan x ≡ false → finite y ≡ true → is_nan (add f x y) ≡ false
unfolding add is_nan
add_no_nan f nan y p q = absurd (true≢false p)
add_no_nan f (inf s) nan p q = absurd (false≢true q)
add_no_nan f (inf s) (inf t) p q = absurd (false≢true q)
add_no_nan f (inf s) (fin t n d) p q = refl
add_no_nan f (fin s m e) nan p q = absurd (false≢true q)
add_no_nan f (fin s m e) (inf t) p q = absurd (false≢true q)
add_no_nan f (fin s m e) (fin t n d) p q = sum_no_nan f s (m * up e * down d) t (n * up d * down e) (down e * down d)

infinity : (x : Float) → is_nan x ≡ false → finite x ≡ false → (x ≡ inf false) ⊎ (x ≡ inf true)
unfolding is_nan
infinity nan p q = absurd (true≢false p)
infinity (inf false) p q = inl refl
infinity (inf true) p q = inr refl
infinity (fin s m e) p q = absurd (true≢false q)

stays-infinite : (f : Format) (x y : Float) → is_nan x ≡ false → finite y ≡ true → finite x ≡ false → finite (add f x y) ≡ false
unfolding add is_nan
stays-infinite f nan y p q r = absurd (true≢false p)
stays-infinite f (inf s) nan p q r = refl
stays-infinite f (inf s) (inf t) p q r = absurd (false≢true q)
stays-infinite f (inf s) (fin t n d) p q r = refl
stays-infinite f (fin s m e) y p q r = absurd (true≢false r)

pub told : (n : ℤ) (s : Scaling) → T (in_float binary64 n) → unusable s ≡ false → Told n s
unfolding value_of
told n s t e =
    let u = usable s e in
    let product = mul binary64 (of_int binary64 n) s.scale in
    let product-no-nan = mul_no_nan binary64 (of_int binary64 n) s.scale (whole_finite n t) u.scale in
    let no_nan = add_no_nan binary64 product s.offset product-no-nan u.offset in
    record {
      not_nan = no_nan;
      told = of_bits-to_bits binary64 (value_of n s) (add-fits binary64 product s.offset);
      infinite = infinity (value_of n s) no_nan;
      overflowed = stays-infinite binary64 product s.offset product-no-nan u.offset;
    }

pub value_no_nan : (n : ℤ) (s : Scaling) → T (in_float binary64 n) → unusable s ≡ false → T (not (is_nan (value_of n s)))
value_no_nan n s t e = subst (λ (b : Bool). T (not b)) (sym (told n s t e).not_nan) tt
