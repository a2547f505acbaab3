-- The starred examples, by computation on the definitions.
-- Assumes nothing.
use mathlib.Core.Path.{refl}
use Rattle.bits.specs.Bytes.{word, bits}
use Rattle.generators.specs.Generator.{preoutput, clock}
use Rattle.authenticator.specs.Authenticator.{absorb, add, move}
use Rattle.startup.specs.StartUp.{loaded}
use Rattle.startup.specs.Editions.{ordered, bits_in}
use Rattle.lengths.specs.CodedLength.{coded_length}
use Rattle.payload.specs.AuthenticatedString.{header, authenticated}
use Rattle.payload.specs.Examples.{Starred}

pub starred : Starred
unfolding ordered bits_in coded_length header authenticated bits word loaded preoutput clock absorb add move
starred = refl
