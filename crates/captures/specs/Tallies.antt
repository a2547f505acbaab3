-- Frames counted in walking order, and the place of the one that is sought.
use Rattle.std.specs.Prelude.{ℕ, ◌+◌, cond, List, [], ◌∷◌, ◌==◌}
use Rattle.captures.specs.declared.Part.{Part}
use Rattle.captures.specs.declared.walk.Tally.{Tally}
use Rattle.refusals.specs.Refusals.{Check}
use Rattle.captures.specs.Answers.{Tallied}
use Rattle.std.specs.Prelude.{Ok, Err, Some, None}
use Rattle.captures.specs.Content.{frames_of}
use Rattle.captures.specs.Walk.{Walked, broken, sound}

-- One frame more.
abbrev pub counted : (sought : ℕ) → Tally → Part → Tally
counted sought t p = record { frames = t.frames + 1; found = cond (t.frames == sought) (Some p) t.found }

unfoldable pub counted_all : (sought : ℕ) → Tally → List Part → Tally
counted_all sought t [] = t
counted_all sought t (p ∷ ps) = counted_all sought (counted sought t p) ps

-- What a section that begins at `base` comes to.
abbrev pub tallied : (sought : ℕ) → Tally → (base : ℕ) → Walked → Tallied
tallied sought t base (broken r) = Err r
tallied sought t base (sound c) = Ok (counted_all sought t (frames_of base c))

-- The tally after a walk that was or was not refused.
abbrev pub refused_or : Check → Tally → Tallied
refused_or (Ok p) t = Ok t
refused_or (Err r) t = Err r

-- Where the counting begins.
abbrev pub nothing : Tally
nothing = record { frames = 0; found = None }
