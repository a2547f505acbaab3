-- The clocks of start-up.
-- Assumes nothing.
use mathlib.Core.Path.{◌≡◌, refl, ap, ◌∙◌}
use mathlib.Core.Bool.{Bool}
use mathlib.Core.List.{List, [], ◌∷◌, ◌++◌, map, zip_with}
use Prim.Native.Nat.{ℕ, suc, ◌+◌}
use native.Mathlib.Nat.{suc_inj}
use native.Mathlib.Omega.{arith}
use lib.ListN.{length, take, drop, replicate, length-append, length-map, length-replicate, length-take, length-drop}
use Rattle.bits.specs.Bit.{◌⊻◌}
use Rattle.bits.specs.Times.{times, in_turn}
use Rattle.bits.proofs.Times.{in_turn-append, in_turn-replicate}
use Rattle.generators.specs.Generator.{Generator, preoutput, clock, fed_back, fed_back_with, keyed}
use Rattle.preoutput.specs.Functions.{grain128}
use Rattle.machine.specs.declared.edition.Edition.{Edition}
use Rattle.machine.specs.declared.edition.Edition.TheVariants.{First, Second}
use Rattle.startup.specs.StartUp.{loaded, rekeyed}
use Rattle.startup.specs.Editions.{bits_in, warmed, filling, running_from, started, initialised}
use Rattle.startup.specs.Laws.{warming_clocks, start_up_clocks, Clocked}
use Rattle.startup.proofs.Loaded.{key-bits}
use Rattle.startup.proofs.Sizes.{length-filling}

-- A clock with each bit of a string, and one with each bit of two strings.
abbrev with_key : List Bool → List (Generator Bool → Generator Bool)
with_key = map (λ k g. keyed grain128 g k)

abbrev with_both : (ks ls : List Bool) → List (Generator Bool → Generator Bool)
with_both = zip_with (λ k l g. clock grain128 g (preoutput grain128 g ⊻ k) (preoutput grain128 g ⊻ l))

with_key-in_turn : (ks : List Bool) (g : Generator Bool) → in_turn (with_key ks) g ≡ rekeyed g ks
unfolding in_turn rekeyed
with_key-in_turn [] g = refl
with_key-in_turn (k ∷ ks) g = with_key-in_turn ks (keyed grain128 g k)

with_both-in_turn : (ks ls : List Bool) (g : Generator Bool) → in_turn (with_both ks ls) g ≡ fed_back_with grain128 g ks ls
unfolding in_turn fed_back_with zip_with
with_both-in_turn [] ls g = refl
with_both-in_turn (k ∷ ks) [] g = refl
with_both-in_turn (k ∷ ks) (l ∷ ls) g = with_both-in_turn ks ls (clock grain128 g (preoutput grain128 g ⊻ k) (preoutput grain128 g ⊻ l))

length-with_both : (ks ls : List Bool) → length ks ≡ length ls → length (with_both ks ls) ≡ length ks
unfolding zip_with
length-with_both [] ls e = refl
length-with_both (k ∷ ks) [] e = absurd (omega arith)
length-with_both (k ∷ ks) (l ∷ ls) e = ap suc (length-with_both ks ls (suc_inj e))

-- Over any number of repetitions, so that the many of them are not written out.
length_repeated : {A : Type 0} (n : ℕ) (a : A) (s : List A) → length (replicate n a ++ s) ≡ n + length s
length_repeated n a s = length-append (replicate n a) s ∙ ap (λ (m : ℕ). m + length s) (length-replicate n a)

repeated_in_turn : {A : Type 0} (n : ℕ) (f : A → A) (fs : List (A → A)) (a : A) → in_turn (replicate n f ++ fs) a ≡ in_turn fs (times n f a)
repeated_in_turn n f fs a = in_turn-append (replicate n f) fs a ∙ ap (in_turn fs) (in_turn-replicate n f a)

-- All clocks but the 128 that fill.
length_warming : (e : Edition) (key : List Bool) → length key ≡ 128 → length (warming_clocks e key) + 128 ≡ running_from e
unfolding warming_clocks
length_warming First key k = ap (λ (n : ℕ). n + 128) (length-replicate 256 (fed_back grain128))
length_warming Second key k =
    ap (λ (n : ℕ). n + 128)
    (length_repeated 320 (fed_back grain128) (with_both (drop 64 key) (take 64 key))
    ∙ ap (λ (n : ℕ). 320 + n) sixty_four)
  where
    sixty_four : length (with_both (drop 64 key) (take 64 key)) ≡ 64
    sixty_four = length-with_both (drop 64 key) (take 64 key) (omega (arith, length-drop 64 key, length-take 64 key)) ∙ omega (arith, length-drop 64 key)

warming_in_turn : (e : Edition) (key : List Bool) (g : Generator Bool) → in_turn (warming_clocks e key) g ≡ warmed e key g
unfolding warming_clocks warmed
warming_in_turn First key g = in_turn-replicate 256 (fed_back grain128) g
warming_in_turn Second key g =
    repeated_in_turn 320 (fed_back grain128) (with_both (drop 64 key) (take 64 key)) g
    ∙ with_both-in_turn (drop 64 key) (take 64 key) (times 320 (fed_back grain128) g)

pub clocked : (e : Edition) (key nonce : List ℕ) → Clocked e key nonce
unfolding start_up_clocks initialised started
clocked e key nonce = record {
  count = λ k.
      length-append (warming_clocks e bits) (with_key (filling e bits))
      ∙ ap (λ (n : ℕ). length (warming_clocks e bits) + n) (length-map (filling e bits) (λ k g. keyed grain128 g k) ∙ length-filling e bits ∙ key-bits e key k)
      ∙ length_warming e bits (key-bits e key k);
  lead =
      in_turn-append (warming_clocks e bits) (with_key (filling e bits)) (loaded bits (bits_in e nonce))
      ∙ ap (in_turn (with_key (filling e bits))) (warming_in_turn e bits (loaded bits (bits_in e nonce)))
      ∙ with_key-in_turn (filling e bits) (warmed e bits (loaded bits (bits_in e nonce)));
}
  where
    bits : List Bool
    bits = bits_in e key
