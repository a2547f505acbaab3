-- The frame that is sought, among those that are counted, and what the calls answer by it.
-- Assumes nothing.
use Rattle.std.proofs.Common.{◌≡◌, ℕ, suc, ◌+◌, ◌-◌, ◌<◌, ◌≤◌, List, [], ◌∷◌, length, refl, ap, ◌∙◌, zero-add, arith, eq-eqb, ne_eqb}
use native.Mathlib.Nat.{sub-zero}
use native.Mathlib.Decide.{ℕ_discrete}
use Rattle.refusals.specs.declared.Refusal.TheVariants.{PastLastFrame}
use Rattle.refusals.specs.Refusals.{Answer}
use Rattle.refusals.proofs.Demand1.{count-not-refused}
use Rattle.std.specs.Prelude.{Ok, Err, None}
use Rattle.std.specs.Option.{ok_or}
use Rattle.captures.specs.declared.Part.{Part}
use Rattle.captures.specs.declared.walk.Tally.{Tally}
use Rattle.captures.specs.Answers.{Found, Tallied}
use Rattle.captures.specs.Content.{frames_of}
use Rattle.captures.specs.Walk.{Walked, broken, sound}
use Rattle.captures.specs.Tallies.{counted, counted_all, tallied, nothing}
use Rattle.captures.specs.Calls.{numbered, count_of, found_in}
use Rattle.captures.proofs.Numbered.{numbered-past}
use Rattle.captures.proofs.Tallying.{frames-counted}

-- Once it is passed, it stays.
passed : (sought : ℕ) (t : Tally) (ps : List Part) → sought < t.frames → (counted_all sought t ps).found ≡ t.found
unfolding counted_all
passed sought t [] h = refl
passed sought t (p ∷ ps) h = passed sought (counted sought t p) ps (omega arith) ∙ simp (ne_eqb t.frames sought (λ e. omega arith))

-- Until it is reached, it is the one with its number among those that follow.
ahead : (sought : ℕ) (t : Tally) (ps : List Part) → t.found ≡ None → t.frames ≤ sought
    → ok_or (counted_all sought t ps).found PastLastFrame ≡ numbered ps (sought - t.frames)
unfolding counted_all numbered
ahead sought t [] none h = rw none refl
ahead sought t (p ∷ ps) none h =
    elim (ℕ_discrete t.frames sought) [
      | yes same ↦
          let first : sought - t.frames ≡ 0 = omega arith in
          rw (first, passed sought (counted sought t p) ps (omega arith), eq-eqb t.frames sought same) refl
      | no other ↦
          let more : sought - t.frames ≡ suc (sought - (t.frames + 1)) = omega arith in
          rw more (ahead sought (counted sought t p) ps (rw (ne_eqb t.frames sought other) none) (omega arith))
    ]

-- The count of frames in a tally, or the refusal.
abbrev pub frames_told : Tallied → Answer
frames_told (Ok t) = Ok t.frames
frames_told (Err r) = Err r

pub counts : (sought : ℕ) (w : Walked) → frames_told (tallied sought nothing 0 w) ≡ count_of w
counts sought (broken q) = refl
counts sought (sound c) = ap Ok (frames-counted sought nothing (frames_of 0 c) ∙ zero-add (length (frames_of 0 c)))

-- No frame has the number of the count.
pub none_at_count : (w : Walked) (n : ℕ) → Ok n ≡ count_of w → found_in w n ≡ Err PastLastFrame
none_at_count (broken q) n e = absurd (count-not-refused refl e)
none_at_count (sound c) n e =
    let same : n ≡ length (frames_of 0 c) = cc in
    numbered-past (frames_of 0 c) n (omega (arith, same))

-- The frame in a tally, or the refusal.
abbrev pub frame_told : Tallied → Found
frame_told (Ok t) = ok_or t.found PastLastFrame
frame_told (Err r) = Err r

pub finds : (sought : ℕ) (w : Walked) → frame_told (tallied sought nothing 0 w) ≡ found_in w sought
finds sought (broken q) = refl
finds sought (sound c) = ahead sought nothing (frames_of 0 c) refl (omega arith) ∙ ap (numbered (frames_of 0 c)) (sub-zero sought)
