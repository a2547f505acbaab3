-- What the largest job takes.
-- Assumes nothing.
use mathlib.Core.Path.{refl}
use lib.ListN.{length}
use Rattle.lengths.specs.CodedLength.{coded_length}
use Rattle.payload.specs.Job.{string_bits, job_clocks}
use Rattle.payload.proofs.AuthenticatedString.{length-authenticated}
use Rattle.payload.proofs.Job.{job_grows}
use Rattle.limits.specs.Limits.{message_limit}
use Rattle.grain128aead.specs.Sizes.{ad_limit}
use Rattle.grain128aead.specs.LargestJob.{LargestJob, Largest}

pub largest_job : LargestJob
unfolding ad_limit message_limit coded_length string_bits job_clocks
largest_job = record { bits = refl; first_clocks = refl; second_clocks = refl }

pub largest : Largest
largest ed key nonce ad message legal =
    let grows = job_grows ed (length ad) (length message) ad_limit message_limit legal.ad_fits legal.message_fits in
    (rw (length-authenticated ed ad message) grows.0, grows.1)
