-- What decoding answers fits a signed number of 64 bits.
-- Assumes nothing.
use mathlib.Core.Path.{◌≡◌, refl}
use Rattle.refusals.specs.Signed.{capped}
use Rattle.signals.specs.declared.Verdict.TheVariants.{Below, Within, Above, NotFinite}
use Rattle.signals.specs.Calls.{Decoded}
use Rattle.std.specs.Prelude.{Ok, Err}
use Rattle.signals.specs.Calls.{answer}

pub answer_fits : (d : Decoded) → capped (answer d) ≡ answer d
answer_fits (Ok (Below v)) = refl
answer_fits (Ok (Within v)) = refl
answer_fits (Ok (Above v)) = refl
answer_fits (Ok (NotFinite v)) = refl
answer_fits (Err r) = refl
