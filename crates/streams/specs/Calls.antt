-- The calls on a stream: from the state, a byte string of any length, and what is given besides, to the answer, the state afterwards and the output
-- afterwards (document 02, C-13, C-18 and C-20).
use Rattle.std.specs.Prelude.{Bool, false, not, List, [], ◌++◌, ℕ, eqb, ltb, length, drop}
use Rattle.bits.specs.Bytes.{same}
use Rattle.refusals.specs.declared.Refusal.{Refusal}
use Rattle.refusals.specs.Refusals.{Check, Answer, Row, among, check}
use Rattle.std.specs.Prelude.{Ok, Err}
use Rattle.startup.specs.Naming.{known, named}
use Rattle.payload.specs.Sizes.{tag_size}
use Rattle.limits.specs.Limits.{message_limit}
use Rattle.grain128aead.specs.Sizes.{ad_limit}
use Rattle.stream_checks.specs.declared.counts.Kind.{Kind}
use Rattle.stream_checks.specs.declared.counts.Kind.TheVariants.{Sealing, Checking}
use Rattle.stream_checks.specs.Counts.{ad_out_of_turn, out_of_turn, too_long}
use Rattle.stream_checks.specs.Order.{beginning, others}
use Rattle.stream_checks.specs.Rows as checks
use Rattle.stream_state.specs.Stream.{Stream, clocks_so_far}
use Rattle.stream_state.specs.Layout as layout
use Rattle.stream_state.specs.Layout.{read, sound}
use Rattle.streams.specs.Going.{begun, with_ad, with_text, cipher, finished, tag_of}

-- The calls, each with what is given besides the state: begin, with the number of an edition and the announced length of the AD; a piece of AD; a piece of
-- message, and the output lent for its ciphertext; a piece of ciphertext; the end of a sealing stream, with the output lent for the tag; the end of a
-- checking stream, with the tag.
pub data Call : Type 0 where
  Begin : Kind → (edition : ℕ) → (key nonce : List ℕ) → (announced : ℕ) → Call
  Ad : Kind → (piece : List ℕ) → Call
  Message : (piece out : List ℕ) → Call
  Ciphertext : (piece : List ℕ) → Call
  FinishSealing : (out : List ℕ) → Call
  FinishChecking : (tag : List ℕ) → Call

abbrev pub order : Call → List Refusal
order (Begin kind n key nonce announced) = beginning
order (Ad kind piece) = others
order (Message piece out) = others
order (Ciphertext piece) = others
order (FinishSealing out) = others
order (FinishChecking tag) = others

-- When each refusal applies, on a state of so many bytes, sound or not, that is read as x. Begin looks at the size alone.
abbrev pub rows : Call → (size : ℕ) → (unsound : Bool) → Stream → List Row
rows (Begin kind n key nonce announced) size unsound x = checks.begin_rows (not (known n)) key nonce announced ad_limit size
rows (Ad kind piece) size unsound x = checks.rows unsound (ad_out_of_turn kind x.counts (length piece)) false false false false
rows (Message piece out) size unsound x =
    checks.rows unsound (out_of_turn Sealing x.counts) (too_long message_limit x.counts (length piece)) false (ltb (length out) (length piece)) false
rows (Ciphertext piece) size unsound x = checks.rows unsound (out_of_turn Checking x.counts) (too_long message_limit x.counts (length piece)) false false false
rows (FinishSealing out) size unsound x = checks.rows unsound (out_of_turn Sealing x.counts) false false (ltb (length out) tag_size) false
rows (FinishChecking tag) size unsound x =
    checks.rows unsound (out_of_turn Checking x.counts) false (not (eqb (length tag) tag_size)) false (not (same tag (tag_of x)))

-- How the stream goes on where the call is accepted.
abbrev pub next : Call → Stream → Stream
next (Begin kind n key nonce announced) x = begun kind (named n) key nonce announced
next (Ad kind piece) x = with_ad x piece
next (Message piece out) x = with_text Sealing x piece
next (Ciphertext piece) x = with_text Checking x piece
next (FinishSealing out) x = finished x
next (FinishChecking tag) x = finished x

-- What is then written to the front of the output. A checking stream writes nothing.
abbrev pub produced : Call → Stream → List ℕ
produced (Begin kind n key nonce announced) x = []
produced (Ad kind piece) x = []
produced (Message piece out) x = cipher x piece
produced (Ciphertext piece) x = []
produced (FinishSealing out) x = tag_of x
produced (FinishChecking tag) x = []

-- The output that is lent; where a call has none, it is empty.
abbrev pub lent : Call → List ℕ
lent (Begin kind n key nonce announced) = []
lent (Ad kind piece) = []
lent (Message piece out) = out
lent (Ciphertext piece) = []
lent (FinishSealing out) = out
lent (FinishChecking tag) = []

-- What a call answers, and state and output afterwards.
pub record Step : Type 0 where
  pub answer : Answer
  pub state : List ℕ
  pub output : List ℕ

abbrev pub step : Answer → (state output : List ℕ) → Step
step answer state output = record { answer = answer; state = state; output = output }

-- An accepted call answers the clocks so far, leaves the stream as it goes on in the state, and what it writes at the front of the output.
abbrev pub accepted : Stream → (written out : List ℕ) → Step
accepted x written out = step (Ok (clocks_so_far x)) (layout.written x) (written ++ drop (length written) out)

-- A refusal leaves state and output as lent.
unfoldable pub settled : Check → Stream → (written state out : List ℕ) → Step
settled (Ok u) x written state out = accepted x written out
settled (Err r) x written state out = step (Err r) state out

-- A call on a state of so many bytes, sound or not, that is read as x.
abbrev pub on_stream : Call → (unsound : Bool) → Stream → (state : List ℕ) → Step
on_stream c unsound x state = settled (check (order c) (among (rows c (length state) unsound x))) (next c x) (produced c x) state (lent c)

-- A call on any state.
unfoldable pub called : Call → (state : List ℕ) → Step
called c state = on_stream c (not (sound message_limit state)) (read state) state
