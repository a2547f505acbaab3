-- Any cutting (document 02, C-13): over every sequence of calls on one state after an accepted begin, refused calls and further begins among them, the
-- accepted pieces joined are the AD and the message, or the ciphertext, of the calls on whole strings.
use Rattle.std.specs.Prelude.{◌≡◌, ◌↔◌, ◌≢◌, ◌⊎◌, Bool, true, false, List, [], ◌++◌, ℕ, ◌+◌, ◌≤◌, length}
use Rattle.bits.specs.Times.{in_turn}
use Rattle.refusals.specs.declared.Refusal.{Refusal}
use Rattle.refusals.specs.declared.Refusal.TheVariants.{TagDiffers}
use Rattle.std.specs.Prelude.{Ok, Err}
use Rattle.refusals.specs.Outcome.{Outcome, success}
use Rattle.refusals.specs.Demand1 as any_call
use Rattle.key.specs.Sizes.{key_size, nonce_size}
use Rattle.key.specs.BlankKey.{blank_key}
use Rattle.startup.specs.StartUp.{loaded}
use Rattle.startup.specs.Editions.{bits_in}
use Rattle.startup.specs.Naming.{known}
use Rattle.payload.specs.Sizes.{tag_size}
use Rattle.payload.specs.AuthenticatedString.{authenticated}
use Rattle.payload.specs.Job.{job_clocks}
use Rattle.payload.specs.Payload.{ciphertext, tag}
use Rattle.limits.specs.Limits.{message_limit}
use Rattle.grain128aead.specs.Sizes.{ad_limit}
use Rattle.grain128aead.specs.Calls.{sealed, opened}
use Rattle.stream_checks.specs.declared.counts.Kind.{Kind}
use Rattle.stream_checks.specs.declared.counts.Kind.TheVariants.{Sealing, Checking}
use Rattle.stream_checks.specs.Rows.{state_size}
use Rattle.stream_state.specs.Stream.{clocks_so_far}
use Rattle.stream_state.specs.Layout as layout
use Rattle.streams.specs.Calls.{Call, Begin, Ad, Message, Ciphertext, FinishSealing, FinishChecking, lent, Step, step, on_stream, called}
use Rattle.streams.specs.Demand1.{Accepts}
use Rattle.streams.specs.History.{History, Play, fresh, play, played, message, taken, reached, clocks_of}

-- What holds of a history: begin was legal; AD taken is at most what was announced; text was taken only with the AD complete, and at most the limit; finish
-- only with the AD complete.
pub record Legal (h : History) : Type 0 where
  pub key_sized : length h.key ≡ key_size
  pub nonce_sized : length h.nonce ≡ nonce_size
  pub key_not_blank : h.key ≢ blank_key
  pub announced_fits : h.announced ≤ ad_limit
  pub ad_fits : length h.ad ≤ h.announced
  pub text_behind_ad : (h.text ≡ []) ⊎ (length h.ad ≡ h.announced)
  pub text_fits : length h.text ≤ message_limit
  pub ended_behind_ad : h.ended ≡ true → length h.ad ≡ h.announced

-- The clocks of a history: there are as many as are answered, and they lead from the loaded registers to those of the published machine then. After finish they are
-- as many as the whole job takes, and never more than the largest job takes.
pub record Clocked (h : History) : Type 0 where
  pub count : length (clocks_of h) ≡ clocks_so_far (reached h)
  pub lead : in_turn (clocks_of h) (loaded (bits_in h.edition h.key) (bits_in h.edition h.nonce)) ≡ (reached h).machine.generator
  pub job : h.ended ≡ true → length (clocks_of h) ≡ job_clocks h.edition (length h.ad) (length h.text)
  pub most : length (clocks_of h) ≤ job_clocks h.edition ad_limit message_limit

-- The bits taken are those of the authenticated string: after finish all of it, before it those at its front, with whatever AD up to the announced length and
-- whatever message it goes on.
pub record Authenticated (h : History) : Type 0 where
  pub all : h.ended ≡ true → taken h ≡ authenticated h.edition h.ad (message h)
  pub front : h.ended ≡ false → (ad text : List ℕ) → length (h.ad ++ ad) ≡ h.announced → (message h ≡ []) ⊎ (ad ≡ [])
      → (rest : List Bool) × (taken h ++ rest ≡ authenticated h.edition (h.ad ++ ad) (message h ++ text))

-- What has been handed out: the ciphertext of the message so far when sealing, nothing when checking.
abbrev pub handed_out : Kind → History → List ℕ
handed_out Sealing h = ciphertext h.edition h.key h.nonce h.ad h.text
handed_out Checking h = []

-- Exactly these calls are accepted. A begin that is legal on a state of so many bytes; on an open stream of the call's kind, a piece of AD that stays within the
-- announced length, and with the AD complete a piece of text that stays within the limit, with room for it, and finish, with room for the tag when sealing, with the
-- right tag when checking.
abbrev pub Taking : Call → (size : ℕ) → History → Type 0
Taking (Begin kind n key nonce announced) size h =
    (known n ≡ true) × (length key ≡ key_size) × (length nonce ≡ nonce_size) × (key ≢ blank_key) × (announced ≤ ad_limit) × (size ≡ state_size)
Taking (Ad kind piece) size h = (h.kind ≡ kind) × (h.ended ≡ false) × (length h.ad + length piece ≤ h.announced)
Taking (Message piece out) size h =
    (h.kind ≡ Sealing) × (h.ended ≡ false) × (length h.ad ≡ h.announced) × (length h.text + length piece ≤ message_limit) × (length piece ≤ length out)
Taking (Ciphertext piece) size h = (h.kind ≡ Checking) × (h.ended ≡ false) × (length h.ad ≡ h.announced) × (length h.text + length piece ≤ message_limit)
Taking (FinishSealing out) size h = (h.kind ≡ Sealing) × (h.ended ≡ false) × (length h.ad ≡ h.announced) × (tag_size ≤ length out)
Taking (FinishChecking given) size h =
    (h.kind ≡ Checking) × (h.ended ≡ false) × (length h.ad ≡ h.announced) × (length given ≡ tag_size)
    × (given ≡ tag h.edition h.key h.nonce h.ad (message h))

-- The end of a checking stream with a tag goes as opening the whole input does: it accepts exactly when that does, and is refusal 7 exactly when that is.
pub record Verdict (t : Step) (o : Outcome) : Type 0 where
  pub accepts : Accepts t ↔ any_call.Accepts o
  pub refuses : (t.answer ≡ Err TagDiffers) ↔ (o.answer ≡ Err TagDiffers)
  pub one_of_both : Accepts t ⊎ (t.answer ≡ Err TagDiffers)

-- Of a state and its history.
pub record Cut (p : Play) : Type 0 where
  -- After finish, sealing: the outputs joined, and the tag behind them, are what sealing the whole message with the whole AD writes.
  pub sealed_whole : p.history.kind ≡ Sealing → p.history.ended ≡ true → (out : List ℕ) → length p.history.text + tag_size ≤ length out
      → sealed p.history.edition p.history.key p.history.nonce p.history.ad p.history.text out ≡ success (p.history.output ++ p.history.tag) out
  -- After finish, checking: opening the whole input with the whole AD succeeds.
  pub opened_whole : p.history.kind ≡ Checking → p.history.ended ≡ true → (out : List ℕ) → length p.history.text ≤ length out
      → opened p.history.edition p.history.key p.history.nonce p.history.ad (p.history.text ++ p.history.tag) out ≡ success (message p.history) out
  -- Before it, with the AD complete, finish with any tag of 8 bytes goes as opening the whole input with room for the message.
  pub verdict : p.history.kind ≡ Checking → p.history.ended ≡ false → length p.history.ad ≡ p.history.announced
      → (tag out : List ℕ) → length tag ≡ tag_size → length p.history.text ≤ length out
      → Verdict (called (FinishChecking tag) p.state) (opened p.history.edition p.history.key p.history.nonce p.history.ad (p.history.text ++ tag) out)
  -- What the calls have written so far.
  pub output : p.history.output ≡ handed_out p.history.kind p.history
  -- The state is what is written of the published machine after the bits taken, and of the counts.
  pub state : p.state ≡ layout.written (reached p.history)
  pub authenticated : Authenticated p.history
  -- The next call goes by these, and which calls are accepted is told by the history.
  pub next : (c : Call) → called c p.state ≡ on_stream c false (reached p.history) p.state
  pub takes : (c : Call) → Accepts (called c p.state) ↔ Taking c (length p.state) p.history
  -- Where it is accepted, it answers the number of the published machine's clocks then.
  pub answers : (c : Call) (n : ℕ) → (called c p.state).answer ≡ Ok n → n ≡ length (clocks_of (play p c).history)
  pub clocked : Clocked p.history
  -- Where it is refused, state, history and what was lent for its output are as before.
  pub refused : (c : Call) (r : Refusal) → (called c p.state).answer ≡ Err r → (called c p.state ≡ step (Err r) p.state (lent c)) × (play p c ≡ p)
  pub legal : Legal p.history

-- After a begin that is accepted, whatever the state held before: it answers the number of the published machine's clocks, and any calls after it, however
-- many and in whatever order, lead to a state and a history of which all this holds.
abbrev pub AnyCutting : Type 0
AnyCutting =
    (kind : Kind) (n : ℕ) (key nonce : List ℕ) (announced : ℕ) (state : List ℕ) (m : ℕ) → (called (Begin kind n key nonce announced) state).answer ≡ Ok m
    → (m ≡ length (clocks_of (fresh kind n key nonce announced)))
    × ((calls : List Call) → Cut (played (record { state = (called (Begin kind n key nonce announced) state).state; history = fresh kind n key nonce announced }) calls))

-- The calls of such a sequence are told all 64 bytes. One that is told another length is refused and leaves all as lent, so that it may stand anywhere between.
abbrev pub OtherLength : Type 0
OtherLength = (c : Call) (state : List ℕ) → length state ≢ state_size → (r : Refusal) × (called c state ≡ step (Err r) state (lent c))
