-- How a stream goes on (document 02, C-13): the string bits that each call has the machine take, what comes out, and what is counted.
use Rattle.std.specs.Prelude.{◌≡◌, Bool, true, false, List, [], ◌∷◌, ℕ, ◌+◌, length}
use Rattle.machine.specs.declared.edition.Edition.{Edition}
use Rattle.machine.specs.Machine.{State, run, encipher, decipher}
use Rattle.startup.specs.Editions.{bits_in, bytes_in, initialised}
use Rattle.lengths.specs.CodedLength.{coded_length}
use Rattle.payload.specs.Sizes.{tag_size}
use Rattle.stream_checks.specs.declared.counts.Kind.{Kind}
use Rattle.stream_checks.specs.declared.counts.Kind.TheVariants.{Sealing, Checking}
use Rattle.stream_checks.specs.declared.counts.Counts.{Counts}
use Rattle.stream_checks.specs.Counts.{number}
use Rattle.limits.specs.Limits.{message_limit}
use Rattle.stream_state.specs.declared.Session.{Session}
use Rattle.stream_state.specs.Stream.{Stream, stream_of}
use Rattle.stream_state.specs.Layout.{read, sound}

abbrev pub is_sealing : Kind → Bool
is_sealing Sealing = true
is_sealing Checking = false

-- The state is sound, and is read as this stream.
pub record Holds (state : List ℕ) (x : Session) : Type 0 where
  pub soundly : sound message_limit state ≡ true
  pub stream : read state ≡ stream_of x

-- ---- counts

abbrev pub more_ad : Counts → (n : ℕ) → Counts
more_ad c n = record { kind = c.kind; phase = c.phase; announced = c.announced; ad = c.ad + n; message = c.message }

abbrev pub more_message : Counts → (n : ℕ) → Counts
more_message c n = record { kind = c.kind; phase = c.phase; announced = c.announced; ad = c.ad; message = c.message + n }

abbrev pub ended : Counts → Counts
ended c = record { kind = c.kind; phase = 1; announced = c.announced; ad = c.ad; message = c.message }

-- ---- streams

-- Begin: start-up, then the coded length of the AD.
abbrev pub begun : Kind → Edition → (key nonce : List ℕ) → (announced : ℕ) → Stream
begun kind e key nonce announced = record {
  machine = run (initialised e key nonce) (bits_in e (coded_length announced));
  counts = record { kind = number kind; phase = 0; announced = announced; ad = 0; message = 0 };
}

-- A piece of AD.
abbrev pub with_ad : Stream → (piece : List ℕ) → Stream
with_ad x piece = record { machine = run x.machine (bits_in x.machine.edition piece); counts = more_ad x.counts (length piece) }

-- The machine after a piece of message or ciphertext: it takes the message's bits, which are those given when sealing and those that come out when checking.
abbrev pub through : Kind → State → List Bool → State
through Sealing st s = run st s
through Checking st s = run st (decipher st s)

abbrev pub with_text : Kind → Stream → (piece : List ℕ) → Stream
with_text kind x piece = record { machine = through kind x.machine (bits_in x.machine.edition piece); counts = more_message x.counts (length piece) }

-- The ciphertext of a piece of message.
abbrev pub cipher : Stream → (piece : List ℕ) → List ℕ
cipher x piece = bytes_in x.machine.edition (length piece) (encipher x.machine (bits_in x.machine.edition piece))

-- Finish: the final 1; the tag is the accumulator after it.
abbrev pub finished : Stream → Stream
finished x = record { machine = run x.machine (true ∷ []); counts = ended x.counts }

abbrev pub tag_of : Stream → List ℕ
tag_of x = bytes_in x.machine.edition tag_size (finished x).machine.authenticator.accumulator
