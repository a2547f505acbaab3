-- `stream_state::writing::edition_word` meets its contract.
use denote.Enum.Declared.{tag_of}
use Rattle.std.proofs.Common.{◌≡◌, ◌+◌, ◌*◌, ◌%◌, ◌^◌, ◌∷◌}
use Rattle.bits.specs.Bytes.{word, bytes}
use Rattle.machine.specs.contracts.edition.Edition.{the_type}
use Rattle.machine.specs.declared.edition.Edition.{Edition}
use Rattle.machine.specs.declared.edition.Edition.TheVariants.{First, Second}
use Rattle.startup.specs.Editions.{number}
use Rattle.stream_state.specs.Layout.{spare}
use Rattle.stream_state.proofs.Spelled.{low_bytes_lem}
use Rattle.stream_state.proofs.writing.edition_word.Goals as goal

spelled : (e : Edition) → bytes 8 (word 64 ((tag_of the_type e + 1) * 2 ^ 56 % 2 ^ 64)) ≡ number e ∷ spare
spelled First = low_bytes_lem 8 _
spelled Second = low_bytes_lem 8 _

pub returns : goal.returns
returns c = spelled c.args.edition
