-- The sample of document 02, and the parts of a frame put together.
-- Assumes nothing.
use Rattle.std.proofs.Common.{refl}
use Rattle.bits.specs.Bytes.{word, value, bits}
use Rattle.length_codes.specs.LengthCodes.{coded_lengths, coded_length}
use Rattle.captures.specs.Layout.{number, entries_sound, head_sound, is_frame}
use Rattle.captures.specs.Content.{entry_count_of, frames_from}
use Rattle.captures.specs.Walk.{walk_bodies, walk_section, walk_capture}
use Rattle.captures.specs.Calls.{numbered}
use Rattle.captures.specs.Examples.{Joined, sample, Sample}
use Rattle.captures.proofs.Places.{part-drop}

pub sampled : Sample
unfolding sample number value bits word coded_length coded_lengths entries_sound head_sound is_frame entry_count_of frames_from walk_bodies walk_section walk_capture numbered
sampled = record { counts = refl; finds = refl; identifier = refl; code = refl; nonce = refl; no_data = refl; past = refl }

pub joined : Joined
joined body = cc (part-drop 5 12 body, part-drop 4 1 body, part-drop 0 4 body)
