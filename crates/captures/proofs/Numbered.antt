-- Frames by their number, counted up.
-- Assumes nothing.
use Rattle.std.proofs.Common.{◌≡◌, ℕ, zero, suc, ◌<◌, ◌≤◌, List, [], ◌∷◌, map, length, refl, ap, ◌∙◌, le_of_suc-le-suc, not-suc-le-zero}
use Rattle.refusals.specs.declared.Refusal.TheVariants.{PastLastFrame}
use Rattle.captures.specs.declared.Part.{Part}
use Rattle.captures.specs.Answers.{Found}
use Rattle.std.specs.Prelude.{Ok, Err}
use Rattle.captures.specs.Content.{Content, frames_of}
use Rattle.captures.specs.Walk.{Walked, sound, walk_capture}
use Rattle.captures.specs.Calls.{numbered, found_in, found}
use Rattle.captures.specs.Listing.{count_up}

-- Below the count there is a frame, from it on refusal 17.
pub numbered_below : (ps : List Part) (n : ℕ) → n < length ps → (p : Part) × (numbered ps n ≡ Ok p)
unfolding numbered
numbered_below [] n h = absurd (not-suc-le-zero h)
numbered_below (p ∷ ps) zero h = (p, refl)
numbered_below (p ∷ ps) (suc n) h = numbered_below ps n (le_of_suc-le-suc h)

pub numbered-past : (ps : List Part) (n : ℕ) → length ps ≤ n → numbered ps n ≡ Err PastLastFrame
unfolding numbered
numbered-past [] n h = refl
numbered-past (p ∷ ps) zero h = absurd (not-suc-le-zero h)
numbered-past (p ∷ ps) (suc n) h = numbered-past ps n (le_of_suc-le-suc h)

-- Without the first, all others have one number less.
numbered_next : (p : Part) (ps : List Part) (n from : ℕ) → map (numbered (p ∷ ps)) (count_up n (suc from)) ≡ map (numbered ps) (count_up n from)
unfolding numbered count_up
numbered_next p ps zero from = refl
numbered_next p ps (suc n) from = ap (λ (r : List Found). numbered ps from ∷ r) (numbered_next p ps n (suc from))

-- All of them, in order.
numbered-all : (ps : List Part) → map (numbered ps) (count_up (length ps) 0) ≡ map Ok ps
unfolding numbered count_up
numbered-all [] = refl
numbered-all (p ∷ ps) = ap (λ (r : List Found). Ok p ∷ r) (numbered_next p ps (length ps) 0 ∙ numbered-all ps)

-- What is found by number where the walk has found a content.
module _ (s : List ℕ) (c : Content) (e : walk_capture s ≡ sound c) where
  pub found_is : (number : ℕ) → found s number ≡ numbered (frames_of 0 c) number
  found_is number = ap (λ (w : Walked). found_in w number) e

  pub found-past : (number : ℕ) → length (frames_of 0 c) ≤ number → found s number ≡ Err PastLastFrame
  found-past number h = found_is number ∙ numbered-past (frames_of 0 c) number h

  pub found_all : map (found s) (count_up (length (frames_of 0 c)) 0) ≡ map Ok (frames_of 0 c)
  found_all = ap (λ (w : Walked). map (found_in w) (count_up (length (frames_of 0 c)) 0)) e ∙ numbered-all (frames_of 0 c)
