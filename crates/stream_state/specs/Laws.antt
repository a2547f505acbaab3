-- Where each byte of a stream stands, and that reading and writing are each other's inverse on the states that can occur.
use Rattle.std.specs.Prelude.{◌≡◌, true, List, [], ◌∷◌, ℕ, ◌/◌, ◌%◌, ◌<◌, length, get_or, take, drop, replicate}
use Rattle.bits.specs.Bytes.{Bytes, bytes}
use Rattle.machine.specs.Laws.{Sized}
use Rattle.startup.specs.Editions.{number}
use Rattle.stream_checks.specs.Counts.{can_occur}
use Rattle.stream_checks.specs.Rows.{state_size}
use Rattle.stream_state.specs.Stream.{Stream}
use Rattle.stream_state.specs.Layout.{written, read, sound}

-- Each byte of a written stream, by its place.
pub record Placed (x : Stream) (s : List ℕ) : Type 0 where
  pub lfsr : take 16 s ≡ bytes 16 x.machine.generator.lfsr
  pub nfsr : take 16 (drop 16 s) ≡ bytes 16 x.machine.generator.nfsr
  pub accumulator : take 8 (drop 32 s) ≡ bytes 8 x.machine.authenticator.accumulator
  pub register : take 8 (drop 40 s) ≡ bytes 8 x.machine.authenticator.register
  pub kind : get_or s 48 0 ≡ x.counts.kind
  pub phase : get_or s 49 0 ≡ x.counts.phase
  pub ad_length : take 2 (drop 50 s) ≡ x.counts.announced / 256 ∷ x.counts.announced % 256 ∷ []
  pub ad_taken : take 2 (drop 52 s) ≡ x.counts.ad / 256 ∷ x.counts.ad % 256 ∷ []
  pub message_taken : take 2 (drop 54 s) ≡ x.counts.message / 256 ∷ x.counts.message % 256 ∷ []
  pub edition : get_or s 56 0 ≡ number x.machine.edition
  pub zeros : drop 57 s ≡ replicate 7 0

-- A stream that can occur: registers of 128 and 64 places, counts of two bytes at most, and kind, phase and counts that can occur.
pub record Occurs (limit : ℕ) (x : Stream) : Type 0 where
  pub sized : Sized 64 x.machine
  pub announced : x.counts.announced < 65536
  pub ad : x.counts.ad < 65536
  pub message : x.counts.message < 65536
  pub counted : can_occur limit x.counts ≡ true

-- What is written is sound, and is read as what was written; and what is sound is what is written of what is read from it.
pub record Inverse (limit : ℕ) : Type 0 where
  pub size : (x : Stream) → length (written x) ≡ state_size
  pub placed : (x : Stream) → Placed x (written x)
  pub soundly : (x : Stream) → Occurs limit x → sound limit (written x) ≡ true
  pub there : (x : Stream) → Occurs limit x → read (written x) ≡ x
  pub back : (s : List ℕ) → Bytes s → sound limit s ≡ true → written (read s) ≡ s
  pub occurs : (s : List ℕ) → Bytes s → sound limit s ≡ true → Occurs limit (read s)
