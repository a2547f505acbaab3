-- What walking a section and looking for a frame come to.
use Rattle.std.specs.Prelude.{Result}
use Rattle.refusals.specs.declared.Refusal.{Refusal}
use Rattle.captures.specs.declared.Part.{Part}
use Rattle.captures.specs.declared.walk.Tally.{Tally}

-- The tally after a section, or why the capture is refused.
abbrev pub Tallied : Type 0
Tallied = Result Tally Refusal

-- Where a frame lies, or why there is none.
abbrev pub Found : Type 0
Found = Result Part Refusal
