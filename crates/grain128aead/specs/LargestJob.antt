-- The largest job: an AD and a message at their limits (document 02, C-14 and C-20).
use Rattle.std.specs.Prelude.{◌≡◌, List, ℕ, ◌≤◌, length}
use Rattle.machine.specs.declared.edition.Edition.{Edition}
use Rattle.machine.specs.declared.edition.Edition.TheVariants.{First, Second}
use Rattle.payload.specs.AuthenticatedString.{authenticated}
use Rattle.payload.specs.Job.{string_bits, job_clocks}
use Rattle.limits.specs.Limits.{message_limit}
use Rattle.grain128aead.specs.Sizes.{ad_limit}
use Rattle.grain128aead.specs.Demand2.{Legal}

pub record LargestJob : Type 0 where
  pub bits : string_bits ad_limit message_limit ≡ 1015825
  pub first_clocks : job_clocks First ad_limit message_limit ≡ 2032034
  pub second_clocks : job_clocks Second ad_limit message_limit ≡ 2032162

-- No legal AD and message take more.
abbrev pub Largest : Type 0
Largest =
    (e : Edition) (key nonce ad message : List ℕ) → Legal key nonce ad message
    → (length (authenticated e ad message) ≤ string_bits ad_limit message_limit) × (job_clocks e (length ad) (length message) ≤ job_clocks e ad_limit message_limit)
