-- Clocks one after the other: their laws over any number of them.
-- Assumes nothing.
use mathlib.Core.Path.{◌≡◌, refl, sym, ap, ap₂, ◌∙◌, fun_ext}
use mathlib.Core.Bool.{Bool, true, false}
use mathlib.Core.List.{List, [], ◌∷◌, foldl}
use Prim.Native.Nat.{ℕ, zero, suc, ◌+◌, ◌-◌, ◌≤◌}
use native.Mathlib.Nat.{suc_inj, zero-add, suc-add}
use native.Mathlib.Omega.{arith}
use lib.ListN.{length}
use Rattle.bits.specs.Bit.{◌⊻◌}
use Rattle.bits.specs.Times.{times}
use Rattle.bits.proofs.Sum.{xor_false}
use Rattle.generators.specs.Algebra.{single}
use Rattle.generators.specs.Functions.{Functions}
use Rattle.generators.specs.Generator.{plain, fed_back, keyed, fed_back_with}
use Rattle.generators.specs.Running.{Running, Added, next, clocks, given, adds, Ways}

module _ (by : Functions single) where
  -- Clocks after clocks.
  pub clocks-add : (m n : ℕ) (u v : Added) (r : Running) → clocks by (m + n) u v r ≡ clocks by n (λ i. u (m + i)) (λ i. v (m + i)) (clocks by m u v r)
  unfolding clocks
  clocks-add zero n u v r =
      ap (λ (k : ℕ). clocks by k u v r) (zero-add n)
      ∙ ap₂ (λ (p q : Added). clocks by n p q r) (fun_ext (λ i. ap u (sym (zero-add i)))) (fun_ext (λ i. ap v (sym (zero-add i))))
  clocks-add (suc m) n u v r =
      ap (λ (k : ℕ). clocks by k u v r) (suc-add m n)
      ∙ clocks-add m n (λ i. u (suc i)) (λ i. v (suc i)) (next by (u 0) (v 0) r)
      ∙ ap₂ (λ (p q : Added). clocks by n p q (clocks by m (λ i. u (suc i)) (λ i. v (suc i)) (next by (u 0) (v 0) r))) (fun_ext (λ i. ap u (sym (suc-add m i)))) (fun_ext (λ i. ap v (sym (suc-add m i))))

  -- One turn of a loop that does k of the clocks that are left: these come to the same.
  pub clocks_less : (left k : ℕ) (u v : Added) (a : Running) {u' v' : Added} {b target : Running} → k ≤ left → b ≡ clocks by k u v a → u' ≡ (λ i. u (k + i)) → v' ≡ (λ i. v (k + i))
      → clocks by left u v a ≡ target → clocks by (left - k) u' v' b ≡ target
  clocks_less left k u v a {u'} {v'} {b} h eb eu ev whole =
      let rest : k + (left - k) ≡ left = omega arith in
      ap (clocks by (left - k) u' v') eb
      ∙ ap₂ (λ (p q : Added). clocks by (left - k) p q (clocks by k u v a)) eu ev
      ∙ sym (clocks-add k (left - k) u v a) ∙ ap (λ (n : ℕ). clocks by n u v a) rest ∙ whole

  -- One clock is the next.
  pub clocks_one : (u v : Added) (r : Running) → next by (u 0) (v 0) r ≡ clocks by 1 u v r
  unfolding clocks
  clocks_one u v r = refl

  pub clocks-none : (left : ℕ) (u v : Added) (a : Running) {target : Running} → left ≤ 0 → clocks by left u v a ≡ target → a ≡ target
  unfolding clocks
  clocks-none zero u v a h whole = whole
  clocks-none (suc n) u v a h whole = absurd (omega arith)

  -- The four ways of running.
  clocks-plain : (n : ℕ) (r : Running) → (clocks by n (given []) (given []) r).generator ≡ times n (plain by) r.generator
  unfolding clocks next times
  clocks-plain zero r = refl
  clocks-plain (suc n) r = clocks-plain n (next by (λ y. false) (λ y. false) r)

  clocks-fed_back : (n : ℕ) (r : Running) → (clocks by n (λ i y. y) (λ i y. y) r).generator ≡ times n (fed_back by) r.generator
  unfolding clocks next times
  clocks-fed_back zero r = refl
  clocks-fed_back (suc n) r = clocks-fed_back n (next by (λ y. y) (λ y. y) r)

  clocks-keyed : (ks : List Bool) (r : Running) → (clocks by (length ks) (given ks) (given []) r).generator ≡ foldl (keyed by) r.generator ks
  unfolding clocks next
  clocks-keyed [] r = refl
  clocks-keyed (k ∷ ks) r = clocks-keyed ks (next by (λ y. k) (λ y. false) r)

  clocks-fed_back_with : (ks ls : List Bool) (r : Running) → length ks ≡ length ls → (clocks by (length ks) (adds true ks) (adds true ls) r).generator ≡ fed_back_with by r.generator ks ls
  unfolding clocks next fed_back_with
  clocks-fed_back_with [] ls r e = refl
  clocks-fed_back_with (k ∷ ks) [] r e = absurd (omega arith)
  clocks-fed_back_with (k ∷ ks) (l ∷ ls) r e = clocks-fed_back_with ks ls (next by (λ y. y ⊻ k) (λ y. y ⊻ l) r) (suc_inj e)

  pub ways : (r : Running) → Ways by r
  ways r = record {
    plain = λ n. clocks-plain n r;
    fed_back = λ n. ap (λ (u : Added). (clocks by n u u r).generator) (fun_ext (λ i. fun_ext (λ y. xor_false y))) ∙ clocks-fed_back n r;
    keyed = λ ks. clocks-keyed ks r;
    fed_back_with = λ ks ls e. clocks-fed_back_with ks ls r e;
  }
