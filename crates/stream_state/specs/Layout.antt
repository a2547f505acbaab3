-- The 64 bytes of a stream (document 02, C-13 and C-20): LFSR, NFSR, accumulator and register, place 0 first, top bit first, in both editions; kind; phase;
-- AD length, AD taken and message taken, two bytes each, high byte first; edition; 7 spare bytes, which are zero.
use Rattle.std.specs.Prelude.{Bool, cond, ◌&&◌, List, [], ◌∷◌, ◌++◌, ℕ, ◌+◌, ◌*◌, ◌/◌, ◌%◌, eqb, length, get_or, take, drop, replicate}
use Rattle.std.specs.Prelude.{Option, Some, None, option_map}
use Rattle.bits.specs.Bytes.{bits, bytes, same}
use Rattle.machine.specs.declared.edition.Edition.{Edition}
use Rattle.machine.specs.Machine.{State}
use Rattle.startup.specs.Editions.{number}
use Rattle.startup.specs.Naming.{known, named}
use Rattle.stream_checks.specs.declared.counts.Counts.{Counts}
use Rattle.stream_checks.specs.Counts.{can_occur}
use Rattle.stream_checks.specs.Rows.{state_size}
use Rattle.stream_state.specs.declared.Session.{Session}
use Rattle.stream_state.specs.Stream.{Stream, stream_of}

-- A number in two bytes, high byte first, and the number that two bytes of a string spell.
abbrev pub two_bytes : ℕ → List ℕ
two_bytes n = n / 256 ∷ n % 256 ∷ []

abbrev pub two_at : (at : ℕ) → List ℕ → ℕ
two_at at s = 256 * get_or s at 0 + get_or s (at + 1) 0

-- The spare bytes.
abbrev pub spare : List ℕ
spare = replicate 7 0

-- How a stream is written.
unfoldable pub written : Stream → List ℕ
written x =
    bytes 16 x.machine.generator.lfsr
    ++ (bytes 16 x.machine.generator.nfsr
    ++ (bytes 8 x.machine.authenticator.accumulator
    ++ (bytes 8 x.machine.authenticator.register
    ++ ((x.counts.kind ∷ x.counts.phase ∷ [])
    ++ (two_bytes x.counts.announced
    ++ (two_bytes x.counts.ad
    ++ (two_bytes x.counts.message
    ++ (number x.machine.edition ∷ spare))))))))

-- How it is read.
unfoldable pub machine_at : Edition → List ℕ → State
machine_at e s = record {
  edition = e;
  generator = record { lfsr = bits (take 16 s); nfsr = bits (take 16 (drop 16 s)) };
  authenticator = record { accumulator = bits (take 8 (drop 32 s)); register = bits (take 8 (drop 40 s)) };
}

abbrev pub counts_at : List ℕ → Counts
counts_at s = record { kind = get_or s 48 0; phase = get_or s 49 0; announced = two_at 50 s; ad = two_at 52 s; message = two_at 54 s }

unfoldable pub read : List ℕ → Stream
read s = record { machine = machine_at (named (get_or s 56 0)) s; counts = counts_at s }

-- Bytes that are a stream's: 64 of them, a known edition, kind, phase and counts that can occur where a message has a limit, and zeros in the spare bytes.
-- The registers may hold anything.
unfoldable pub sound : (limit : ℕ) → List ℕ → Bool
sound limit s = eqb (length s) state_size && (known (get_or s 56 0) && (can_occur limit (counts_at s) && same (drop 57 s) spare))

-- What a state holds: a stream, or nothing.
unfoldable pub held : (limit : ℕ) → List ℕ → Option Stream
held limit s = cond (sound limit s) (Some (read s)) None

abbrev pub held_of : Option Session → Option Stream
held_of = option_map stream_of
