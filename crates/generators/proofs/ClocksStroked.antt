-- Clocks are a stroke, if so few that none sees a new bit.
-- Assumes nothing.
use mathlib.Core.Path.{◌≡◌, refl, sym, ap, ap₂, ◌∙◌, fun_ext}
use mathlib.Core.Bool.{Bool, true, false}
use mathlib.Core.List.{List, [], ◌∷◌, foldl}
use Prim.Native.Nat.{ℕ, zero, suc, ◌+◌, ◌<◌, ◌≤◌}
use native.Mathlib.Nat.{add-zero}
use native.Mathlib.Omega.{arith}
use lib.ListN.{length, drop, length-drop, length-replicate, get_or-append}
use lib.Seq.{get_or-drop}
use Rattle.bits.specs.Bit.{◌⊻◌}
use Rattle.bits.specs.Strings.{shift, places, zeros}
use Rattle.bits.specs.Times.{times}
use Rattle.bits.proofs.Shift.{shifted_in}
use Rattle.bits.proofs.Sum.{xor_false}
use Rattle.generators.specs.Algebra.{single}
use Rattle.generators.specs.Functions.{Functions, Taps}
use Rattle.generators.specs.Generator.{Generator, Sized, place, preoutput, clock, plain, every, fed_back, lfsr_bit, nfsr_bit}
use Rattle.generators.specs.Running.{Running, Added, next, clocks, given, adds}
use Rattle.generators.specs.Strokes.{listed, later, output_at, lfsr_bit_at, nfsr_bit_at, stroked, stroked_run}
use Rattle.generators.proofs.Sizes.{clock-sized}
use Rattle.generators.proofs.Spaced.{length-every}
use Rattle.generators.proofs.Runs.{ways}
use Rattle.generators.proofs.Listed.{listed_agrees, length-listed}
use Rattle.generators.proofs.Below.{Agree, linear_agrees, nonlinear_agrees, output_agrees}

-- Only what is added at the stroke's clocks counts.
pub stroked_agrees : (by : Functions single) (n : ℕ) (u v u' v' : ℕ → Bool) (g : Generator Bool) → ((i : ℕ) → i < n → u i ≡ u' i) → ((i : ℕ) → i < n → v i ≡ v' i)
    → stroked by n u v g ≡ stroked by n u' v' g
unfolding stroked
stroked_agrees by n u v u' v' g eu ev = λ j. record { lfsr = foldl shift g.lfsr (lfsr_bits j); nfsr = foldl shift g.nfsr (nfsr_bits j) }
  where
    lfsr_bits : listed n (lfsr_bit_at by g u) ≡ listed n (lfsr_bit_at by g u')
    lfsr_bits = listed_agrees n (lfsr_bit_at by g u) (lfsr_bit_at by g u') (λ i h. ap (lfsr_bit by (later g.lfsr i)) (eu i h))

    nfsr_bits : listed n (nfsr_bit_at by g v) ≡ listed n (nfsr_bit_at by g v')
    nfsr_bits = listed_agrees n (nfsr_bit_at by g v) (nfsr_bit_at by g v') (λ i h. ap (nfsr_bit by (later g.lfsr i) (later g.nfsr i)) (ev i h))

-- All pre-outputs are what plain clocks shift out.
pub clocks-every : (by : Functions single) (n : ℕ) (r : Running) → (clocks by n (given []) (given []) r).outputs ≡ foldl shift r.outputs (every by 1 n r.generator)
unfolding clocks next every times
clocks-every by zero r = refl
clocks-every by (suc n) r = clocks-every by n (next by (λ y. false) (λ y. false) r)

-- No clock later each place is itself.
module _ (by : Functions single) (g : Generator Bool) where
  now_later : (r : List Bool) → places r ≡ later r 0
  now_later r = fun_ext (λ k. ap (places r) (sym (add-zero k)))

  output_now : preoutput by g ≡ output_at by g 0
  unfolding preoutput
  output_now = ap₂ by.output (now_later g.lfsr) (now_later g.nfsr)

  lfsr_bit_now : (u : Bool → Bool) → lfsr_bit by (place by g.lfsr) (u (preoutput by g)) ≡ lfsr_bit_at by g (λ i. u (output_at by g i)) 0
  lfsr_bit_now u = ap₂ (λ (s : ℕ → Bool) (x : Bool). lfsr_bit by s (u x)) (now_later g.lfsr) output_now

  nfsr_bit_now : (u : Bool → Bool) → nfsr_bit by (place by g.lfsr) (place by g.nfsr) (u (preoutput by g)) ≡ nfsr_bit_at by g (λ i. u (output_at by g i)) 0
  nfsr_bit_now u =
      ap₂ (λ (s b : ℕ → Bool). nfsr_bit by s b (u (preoutput by g))) (now_later g.lfsr) (now_later g.nfsr)
      ∙ ap (λ (x : Bool). nfsr_bit by (later g.lfsr 0) (later g.nfsr 0) (u x)) output_now

-- Registers of `width` places, and functions whose taps are all below place `top`.
module _ (by : Functions single) (width top : ℕ) (taps : Taps top by) where
  -- A clock later each place that is tapped is the next one.
  shift-later : (r : List Bool) (new : Bool) (i : ℕ) → length r ≡ width → suc i + top ≤ width → Agree top (later (shift r new) i) (later r (suc i))
  shift-later r new i e h k l =
      get_or-append (drop 1 r) (new ∷ []) false (k + i) (omega (arith, length-drop 1 r))
      ∙ get_or-drop 1 r (k + i) false ∙ ap (places r) (omega arith)

  -- So that what clock i does after a clock is what clock i + 1 does before it.
  module _ (g : Generator Bool) (a b : Bool) (sized : Sized width g) where
    g' : Generator Bool
    g' = clock by g a b

    lfsr-later : (i : ℕ) → suc i + top ≤ width → Agree top (later g'.lfsr i) (later g.lfsr (suc i))
    unfolding g' clock
    lfsr-later i h = shift-later g.lfsr _ i sized.lfsr h

    nfsr-later : (i : ℕ) → suc i + top ≤ width → Agree top (later g'.nfsr i) (later g.nfsr (suc i))
    unfolding g' clock
    nfsr-later i h = shift-later g.nfsr _ i sized.nfsr h

    output-later : (i : ℕ) → suc i + top ≤ width → output_at by g' i ≡ output_at by g (suc i)
    output-later i h = output_agrees taps (lfsr-later i h) (nfsr-later i h)

    lfsr_bit-later : (u u' : ℕ → Bool) (i : ℕ) → suc i + top ≤ width → u' i ≡ u (suc i) → lfsr_bit_at by g' u' i ≡ lfsr_bit_at by g u (suc i)
    lfsr_bit-later u u' i h e = ap₂ ◌⊻◌ (linear_agrees taps (lfsr-later i h)) e

    nfsr_bit-later : (u u' : ℕ → Bool) (i : ℕ) → 0 < top → suc i + top ≤ width → u' i ≡ u (suc i) → nfsr_bit_at by g' u' i ≡ nfsr_bit_at by g u (suc i)
    nfsr_bit-later u u' i pos h e = ap₂ ◌⊻◌ (ap₂ ◌⊻◌ (lfsr-later i h 0 pos) (nonlinear_agrees taps (nfsr-later i h))) e

  -- What is added, by the clock's number alone.
  abbrev pub at : Added → Running → ℕ → Bool
  at u r i = u i (output_at by r.generator i)

  module _ (pos : 0 < top) where
    -- A clock and a stroke of n are a stroke of n + 1.
    first_clock_lem : (n : ℕ) (u v : Added) (r : Running) → n + top ≤ width → Sized width r.generator
        → let r' = next by (u 0) (v 0) r in
        stroked_run by n (at (λ i. u (suc i)) r') (at (λ i. v (suc i)) r') r' ≡ stroked_run by (suc n) (at u r) (at v r) r
    unfolding next stroked stroked_run listed clock preoutput g'
    first_clock_lem n u v r h sized = λ j. record {
      generator = record { lfsr = foldl shift (shift g.lfsr (lfsr_bit_now by g (u 0) j)) (lfsr_bits j); nfsr = foldl shift (shift g.nfsr (nfsr_bit_now by g (v 0) j)) (nfsr_bits j) };
      outputs = foldl shift (shift r.outputs (output_now by g j)) (outputs j);
    }
      where
        g : Generator Bool
        g = r.generator

        a : Bool
        a = u 0 (preoutput by g)

        b : Bool
        b = v 0 (preoutput by g)

        r' : Running
        r' = next by (u 0) (v 0) r

        outputs : listed n (output_at by r'.generator) ≡ listed n (λ i. output_at by g (suc i))
        outputs = listed_agrees n (output_at by r'.generator) (λ i. output_at by g (suc i)) (λ i l. output-later g a b sized i (omega arith))

        added : (w : Added) (i : ℕ) → i < n → at (λ k. w (suc k)) r' i ≡ at w r (suc i)
        added w i l = ap (w (suc i)) (output-later g a b sized i (omega arith))

        lfsr_bits : listed n (lfsr_bit_at by r'.generator (at (λ k. u (suc k)) r')) ≡ listed n (λ i. lfsr_bit_at by g (at u r) (suc i))
        lfsr_bits =
            listed_agrees n (lfsr_bit_at by r'.generator (at (λ k. u (suc k)) r')) (λ i. lfsr_bit_at by g (at u r) (suc i))
            (λ i l. lfsr_bit-later g a b sized (at u r) (at (λ k. u (suc k)) r') i (omega arith) (added u i l))

        nfsr_bits : listed n (nfsr_bit_at by r'.generator (at (λ k. v (suc k)) r')) ≡ listed n (λ i. nfsr_bit_at by g (at v r) (suc i))
        nfsr_bits =
            listed_agrees n (nfsr_bit_at by r'.generator (at (λ k. v (suc k)) r')) (λ i. nfsr_bit_at by g (at v r) (suc i))
            (λ i l. nfsr_bit-later g a b sized (at v r) (at (λ k. v (suc k)) r') i pos (omega arith) (added v i l))

    next-sized : (u v : Bool → Bool) (r : Running) → 0 < width → Sized width r.generator → Sized width (next by u v r).generator
    unfolding next
    next-sized u v r some sized = clock-sized by width r.generator _ _ some sized

    pub clocks-stroked : (n : ℕ) (u v : Added) (r : Running) → n + top ≤ suc width → Sized width r.generator → clocks by n u v r ≡ stroked_run by n (at u r) (at v r) r
    unfolding clocks stroked stroked_run listed
    clocks-stroked zero u v r h sized = refl
    clocks-stroked (suc n) u v r h sized =
        clocks-stroked n (λ i. u (suc i)) (λ i. v (suc i)) (next by (u 0) (v 0) r) (omega arith) (next-sized (u 0) (v 0) r (omega arith) sized) ∙ first_clock_lem n u v r (omega arith) sized

    -- Strokes of plain clocks and of clocks that feed back, and the pre-outputs.
    module _ (n : ℕ) (g : Generator Bool) (h : n + top ≤ suc width) (sized : Sized width g) where
      begun : Running
      begun = record { generator = g; outputs = zeros n }

      stroke_plain : stroked_run by n (places []) (places []) begun ≡ clocks by n (given []) (given []) begun
      unfolding begun
      stroke_plain = sym (clocks-stroked n (given []) (given []) begun h sized)

      pub plain-stroked : (u v : ℕ → Bool) → ((i : ℕ) → i < n → u i ≡ false) → ((i : ℕ) → i < n → v i ≡ false) → stroked by n u v g ≡ times n (plain by) g
      unfolding stroked_run begun
      plain-stroked u v eu ev = stroked_agrees by n u v (places []) (places []) g eu ev ∙ ap (λ (r : Running). r.generator) stroke_plain ∙ (ways by begun).plain n

      pub fed_back-stroked : (u v : ℕ → Bool) → ((i : ℕ) → i < n → u i ≡ output_at by g i) → ((i : ℕ) → i < n → v i ≡ output_at by g i) → stroked by n u v g ≡ times n (fed_back by) g
      unfolding stroked_run begun
      fed_back-stroked u v eu ev =
          stroked_agrees by n u v (at (adds true []) begun) (at (adds true []) begun) g (λ i l. eu i l ∙ sym (xor_false (output_at by g i))) (λ i l. ev i l ∙ sym (xor_false (output_at by g i)))
          ∙ ap (λ (r : Running). r.generator) (sym (clocks-stroked n (adds true []) (adds true []) begun h sized)) ∙ (ways by begun).fed_back n

      pub listed-every : listed n (output_at by g) ≡ every by 1 n g
      unfolding stroked_run begun
      listed-every =
          sym (shifted_in 0 (zeros n) (listed n (output_at by g)) (omega (arith, length-replicate n false, length-listed n (output_at by g))))
          ∙ ap (λ (r : Running). r.outputs) stroke_plain ∙ clocks-every by n begun
          ∙ shifted_in 0 (zeros n) (every by 1 n g) (omega (arith, length-replicate n false, length-every by 1 n g))
