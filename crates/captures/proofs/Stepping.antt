-- Stepping through a capture: the frames by number, in order, then refusal 17.
-- Assumes nothing.
use Rattle.std.proofs.Common.{◌≡◌, ℕ, zero, suc, ◌+◌, ◌<◌, ◌≤◌, List, ◌∷◌, map, length, replicate, refl, ap, ◌∙◌, ap₂, add-one, arith}
use Rattle.refusals.specs.declared.Refusal.TheVariants.{PastLastFrame}
use Rattle.captures.specs.Answers.{Found}
use Rattle.std.specs.Prelude.{Err}
use Rattle.captures.specs.Content.{Content, frames_of}
use Rattle.captures.specs.Walk.{sound, walk_capture}
use Rattle.captures.specs.Calls.{found, following}
use Rattle.captures.specs.Listing.{count_up}
use Rattle.captures.specs.Stepping.{stepped, place_after, Stepping}
use Rattle.captures.proofs.Numbered.{numbered_below, found_is, found-past, found_all}

module _ (s : List ℕ) (c : Content) (e : walk_capture s ≡ sound c) where
  abbrev last : ℕ
  last = length (frames_of 0 c)

  -- A step that finds a frame goes on by one; at the end the reader stays.
  goes : (place : ℕ) → place < last → following place (found s place) ≡ suc place
  goes place h =
      let p = numbered_below (frames_of 0 c) place h in
      ap (following place) (found_is s c e place ∙ p.1) ∙ add-one place

  stays : following last (found s last) ≡ last
  stays = ap (following last) (found-past s c e last (omega arith))

  -- So many steps find so many frames by number, and the reader is behind them.
  steps : (n place : ℕ) → place + n ≤ last → stepped s n place ≡ map (found s) (count_up n place)
  unfolding stepped count_up
  steps zero place h = refl
  steps (suc n) place h = ap (λ (r : List Found). found s place ∷ r) (ap (stepped s n) (goes place (omega arith)) ∙ steps n (suc place) (omega arith))

  places : (n place : ℕ) → place + n ≤ last → place_after s n place ≡ place + n
  unfolding place_after
  places zero place h = omega arith
  places (suc n) place h = ap (place_after s n) (goes place (omega arith)) ∙ places n (suc place) (omega arith) ∙ omega arith

  -- From the end on nothing is found.
  beyond : (n : ℕ) → stepped s n last ≡ replicate n (Err PastLastFrame)
  unfolding stepped
  beyond zero = refl
  beyond (suc n) = ap₂ ◌∷◌ (found-past s c e last (omega arith)) (ap (stepped s n) stays ∙ beyond n)

  rests : (n : ℕ) → place_after s n last ≡ last
  unfolding place_after
  rests zero = refl
  rests (suc n) = ap (place_after s n) stays ∙ rests n

pub stepping : Stepping
stepping s c e =
    let all = steps s c e (last s c e) 0 (omega arith) in
    record {
      finds = all;
      frames = all ∙ found_all s c e;
      ends = places s c e (last s c e) 0 (omega arith) ∙ omega arith;
      beyond = beyond s c e;
      stays = rests s c e;
    }
