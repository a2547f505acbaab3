-- The authenticator in words of 64 bits.
use Rattle.bits.specs.Bytes.{word}
use Rattle.authenticator.specs.declared.Tagger.{Tagger}
use Rattle.authenticator.specs.Authenticator.{Authenticator}

unfoldable pub authenticator_of : Tagger → Authenticator
authenticator_of t = record { accumulator = word 64 t.accumulator; register = word 64 t.register }
