-- Sequences of calls on one state: what was given and handed out since the last accepted begin.
use Rattle.std.specs.Prelude.{Bool, true, false, cond, ℕ, ◌*◌, length, take, replicate}
use mathlib.Core.List.{List, [], ◌∷◌, ◌++◌, foldl}
use Rattle.bits.specs.Bit.{digit}
use Rattle.generators.specs.Generator.{Generator, plain}
use Rattle.preoutput.specs.Functions.{grain128}
use Rattle.refusals.specs.Refusals.{Answer}
use Rattle.std.specs.Prelude.{Ok, Err}
use Rattle.machine.specs.declared.edition.Edition.{Edition}
use Rattle.machine.specs.Machine.{run}
use Rattle.startup.specs.Editions.{bits_in, initialised}
use Rattle.startup.specs.Naming.{named}
use Rattle.startup.specs.Laws.{start_up_clocks}
use Rattle.lengths.specs.CodedLength.{coded_length}
use Rattle.payload.specs.Sizes.{tag_size}
use Rattle.payload.specs.Payload.{deciphered}
use Rattle.stream_checks.specs.declared.counts.Kind.{Kind}
use Rattle.stream_checks.specs.Counts.{number}
use Rattle.stream_state.specs.Stream.{Stream}
use Rattle.streams.specs.Going.{is_sealing}
use Rattle.streams.specs.Calls.{Call, Begin, Ad, Message, Ciphertext, FinishSealing, FinishChecking, Step, called}

-- Of the last accepted begin: the kind, the edition, the key, the nonce and the announced length of the AD. Of the calls accepted since: the pieces of AD
-- joined; the pieces of message, or of ciphertext, joined; what the calls wrote, joined, a piece of message to the front of its output, a call without an output
-- nothing; whether finish was accepted, and the tag that it wrote or was given.
pub record History : Type 0 where
  pub kind : Kind
  pub edition : Edition
  pub key : List ℕ
  pub nonce : List ℕ
  pub announced : ℕ
  pub ad : List ℕ
  pub text : List ℕ
  pub output : List ℕ
  pub ended : Bool
  pub tag : List ℕ

abbrev pub fresh : Kind → (n : ℕ) → (key nonce : List ℕ) → (announced : ℕ) → History
fresh kind n key nonce announced = record {
  kind = kind;
  edition = named n;
  key = key;
  nonce = nonce;
  announced = announced;
  ad = [];
  text = [];
  output = [];
  ended = false;
  tag = [];
}

-- The history with these in place of its own.
abbrev pub with : History → (ad text output : List ℕ) → (ended : Bool) → (tag : List ℕ) → History
with h ad text output ended tag = record {
  kind = h.kind;
  edition = h.edition;
  key = h.key;
  nonce = h.nonce;
  announced = h.announced;
  ad = ad;
  text = text;
  output = output;
  ended = ended;
  tag = tag;
}

-- What an accepted call adds, where `out` is its output afterwards.
abbrev pub accepting : Call → (out : List ℕ) → History → History
accepting (Begin kind n key nonce announced) out h = fresh kind n key nonce announced
accepting (Ad kind piece) out h = with h (h.ad ++ piece) h.text (h.output ++ out) h.ended h.tag
accepting (Message piece lent) out h = with h h.ad (h.text ++ piece) (h.output ++ take (length piece) out) h.ended h.tag
accepting (Ciphertext piece) out h = with h h.ad (h.text ++ piece) (h.output ++ out) h.ended h.tag
accepting (FinishSealing lent) out h = with h h.ad h.text h.output true (take tag_size out)
accepting (FinishChecking tag) out h = with h h.ad h.text (h.output ++ out) true tag

-- A refused call adds nothing.
abbrev pub noting : Answer → Call → (out : List ℕ) → History → History
noting (Ok n) c out h = accepting c out h
noting (Err r) c out h = h

-- A state and its history; what a call makes of them, and what a sequence of calls does.
pub record Play : Type 0 where
  pub state : List ℕ
  pub history : History

abbrev pub after : Call → Step → History → Play
after c t h = record { state = t.state; history = noting t.answer c t.output h }

abbrev pub play : Play → Call → Play
play p c = after c (called c p.state) p.history

unfoldable pub played : Play → List Call → Play
played = foldl play

-- ---- what the published machine has done by then

-- The message: what was given when sealing, what the ciphertext hides when checking.
abbrev pub message : History → List ℕ
message h = cond (is_sealing h.kind) h.text (deciphered h.edition h.key h.nonce h.ad h.text)

-- The bits taken of the authenticated string: the coded AD length, the AD so far, the message so far, and after finish the final 1.
unfoldable pub taken : History → List Bool
taken h =
    (bits_in h.edition (coded_length h.announced) ++ bits_in h.edition h.ad)
    ++ (bits_in h.edition (message h) ++ cond h.ended (true ∷ []) [])

-- The published machine after these bits, and the counts.
unfoldable pub reached : History → Stream
reached h = record {
  machine = run (initialised h.edition h.key h.nonce) (taken h);
  counts = record { kind = number h.kind; phase = digit h.ended; announced = h.announced; ad = length h.ad; message = length h.text };
}

-- Its clocks in their order: those of start-up, and two plain ones for each bit.
unfoldable pub clocks_of : History → List (Generator Bool → Generator Bool)
clocks_of h = start_up_clocks h.edition h.key ++ replicate (2 * length (taken h)) (plain grain128)
