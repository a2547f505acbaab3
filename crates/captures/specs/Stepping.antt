-- Stepping through a capture with a reader (document 02, C-19).
use Rattle.std.specs.Prelude.{◌≡◌, ℕ, zero, suc, List, [], ◌∷◌, map, length, replicate}
use Rattle.refusals.specs.declared.Refusal.TheVariants.{PastLastFrame}
use Rattle.captures.specs.Answers.{Found}
use Rattle.std.specs.Prelude.{Ok, Err}
use Rattle.captures.specs.Content.{Content, frames_of}
use Rattle.captures.specs.Walk.{walk_capture, sound}
use Rattle.captures.specs.Calls.{found, following}
use Rattle.captures.specs.Listing.{count_up}

-- What n steps find from a reader's place on, and its place after them.
unfoldable pub stepped : (s : List ℕ) → (n place : ℕ) → List Found
stepped s zero place = []
stepped s (suc n) place = found s place ∷ stepped s n (following place (found s place))

unfoldable pub place_after : (s : List ℕ) → (n place : ℕ) → ℕ
place_after s zero place = place
place_after s (suc n) place = place_after s n (following place (found s place))

-- From a fresh reader: the frames by number, in order, then refusal 17, and the reader stays.
pub record Steps (s : List ℕ) (c : Content) : Type 0 where
  pub finds : stepped s (length (frames_of 0 c)) 0 ≡ map (found s) (count_up (length (frames_of 0 c)) 0)
  pub frames : stepped s (length (frames_of 0 c)) 0 ≡ map Ok (frames_of 0 c)
  pub ends : place_after s (length (frames_of 0 c)) 0 ≡ length (frames_of 0 c)
  pub beyond : (n : ℕ) → stepped s n (length (frames_of 0 c)) ≡ replicate n (Err PastLastFrame)
  pub stays : (n : ℕ) → place_after s n (length (frames_of 0 c)) ≡ length (frames_of 0 c)

abbrev pub Stepping : Type 0
Stepping = (s : List ℕ) (c : Content) → walk_capture s ≡ sound c → Steps s c
