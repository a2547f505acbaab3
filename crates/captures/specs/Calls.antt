-- What the calls on a capture answer (document 02, C-19).
use Rattle.std.specs.Prelude.{ℕ, zero, suc, ◌+◌, ◌%◌, ◌^◌, List, [], ◌∷◌, length}
use Rattle.refusals.specs.declared.Refusal.TheVariants.{PastLastFrame}
use Rattle.refusals.specs.Refusals.{Answer}
use Rattle.std.specs.Prelude.{Ok, Err}
use Rattle.captures.specs.declared.Part.{Part}
use Rattle.captures.specs.Answers.{Found}
use Rattle.captures.specs.Layout.{part}
use Rattle.captures.specs.Content.{frames_of}
use Rattle.captures.specs.Walk.{Walked, broken, sound, walk_capture}

-- The count of frames, or the refusal.
abbrev pub count_of : Walked → Answer
count_of (broken r) = Err r
count_of (sound c) = Ok (length (frames_of 0 c))

abbrev pub frames : (capture : List ℕ) → Answer
frames capture = count_of (walk_capture capture)

-- The frame with a number, of a list of them.
unfoldable pub numbered : List Part → (number : ℕ) → Found
numbered [] number = Err PastLastFrame
numbered (p ∷ ps) zero = Ok p
numbered (p ∷ ps) (suc number) = numbered ps number

-- Where a frame lies: the walk's refusal, then 17.
abbrev pub found_in : Walked → (number : ℕ) → Found
found_in (broken r) number = Err r
found_in (sound c) number = numbered (frames_of 0 c) number

abbrev pub found : (capture : List ℕ) → (number : ℕ) → Found
found capture number = found_in (walk_capture capture) number

-- The body of a found frame, a part of the capture; empty on refusal.
abbrev pub body_of : (capture : List ℕ) → Found → List ℕ
body_of capture (Ok p) = part p.start p.size capture
body_of capture (Err r) = []

-- A number of its part, as an answer: where it begins, and its length.
abbrev pub told : (Part → ℕ) → Found → Answer
told number (Ok p) = Ok (number p)
told number (Err r) = Err r

abbrev pub start_of : Found → Answer
start_of = told (λ p. p.start)

abbrev pub size_of : Found → Answer
size_of = told (λ p. p.size)

-- The number that a reader has after a step: the next where a frame was found; a refused step leaves it.
abbrev pub following : (number : ℕ) → Found → ℕ
following number (Ok p) = number + 1
following number (Err r) = number

-- The same in 64 bits, whatever was found.
abbrev pub following_word : (number : ℕ) → Found → ℕ
following_word number (Ok p) = (number + 1) % 2 ^ 64
following_word number (Err r) = number
