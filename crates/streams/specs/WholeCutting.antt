-- A whole AD and a whole message, or ciphertext, cut anyhow: every piece is taken, and finish gives what the call on the whole strings does.
use Rattle.std.specs.Prelude.{◌≡◌, true, List, [], ◌∷◌, ◌++◌, map, ℕ, ◌+◌, ◌≤◌, length}
use Rattle.refusals.specs.Outcome.{success}
use Rattle.startup.specs.Naming.{known, named}
use Rattle.payload.specs.Sizes.{tag_size}
use Rattle.grain128aead.specs.Calls.{sealed, opened}
use Rattle.grain128aead.specs.Demand2 as whole
use Rattle.stream_checks.specs.declared.counts.Kind.{Kind}
use Rattle.stream_checks.specs.declared.counts.Kind.TheVariants.{Sealing, Checking}
use Rattle.stream_checks.specs.Rows.{state_size}
use Rattle.streams.specs.Calls.{Call, Begin, Ad, Message, Ciphertext, FinishSealing, FinishChecking, called}
use Rattle.streams.specs.Demand1.{Accepts}
use Rattle.streams.specs.History.{Play, fresh, play, played}
use Rattle.streams.specs.Cutting.{Verdict}

-- Pieces put together.
unfoldable pub joined : List (List ℕ) → List ℕ
joined [] = []
joined (s ∷ ss) = s ++ joined ss

-- A piece of text and, when sealing, the output lent for its ciphertext.
pub record Piece : Type 0 where
  pub bytes : List ℕ
  pub out : List ℕ

abbrev pub text_call : Kind → Piece → Call
text_call Sealing m = Message m.bytes m.out
text_call Checking m = Ciphertext m.bytes

-- Each output has room for its piece.
abbrev pub Roomy : Kind → List Piece → Type 0
Roomy Checking ms = Unit
Roomy Sealing [] = Unit
Roomy Sealing (m ∷ ms) = (length m.bytes ≤ length m.out) × Roomy Sealing ms

-- The calls between begin and finish.
abbrev pub script : Kind → (ads : List (List ℕ)) → (ms : List Piece) → List Call
script kind ads ms = map (Ad kind) ads ++ map (text_call kind) ms

-- The text of the pieces.
abbrev pub text_of : List Piece → List ℕ
text_of ms = joined (map (λ m. m.bytes) ms)

-- The state that begin leaves, with the history that begins there.
abbrev pub begun_at : Kind → (n : ℕ) → (key nonce : List ℕ) → (announced : ℕ) → (state : List ℕ) → Play
begun_at kind n key nonce announced state = record { state = (called (Begin kind n key nonce announced) state).state; history = fresh kind n key nonce announced }

-- Sealing: finish, with room for the tag, is accepted, and what the calls wrote, the tag last, is what sealing the whole message writes. Checking: finish with any tag
-- goes as opening the whole input.
pub record Finishes (kind : Kind) (n : ℕ) (key nonce ad text : List ℕ) (p : Play) : Type 0 where
  pub seals : kind ≡ Sealing → (lent out : List ℕ) → tag_size ≤ length lent → length text + tag_size ≤ length out
      → Accepts (called (FinishSealing lent) p.state)
      × (sealed (named n) key nonce ad text out ≡ success ((play p (FinishSealing lent)).history.output ++ (play p (FinishSealing lent)).history.tag) out)
  pub checks : kind ≡ Checking → (tag out : List ℕ) → length tag ≡ tag_size → length text ≤ length out
      → Verdict (called (FinishChecking tag) p.state) (opened (named n) key nonce ad (text ++ tag) out)

-- For every legal AD and text, however they are cut: begin, which announces the length of the AD, is accepted on any 64 bytes, and after all pieces finish gives
-- what the call on the whole strings does.
abbrev pub WholeCutting : Type 0
WholeCutting =
    (kind : Kind) (n : ℕ) (key nonce : List ℕ) (ads : List (List ℕ)) (ms : List Piece) (state : List ℕ)
    → known n ≡ true → whole.Legal key nonce (joined ads) (text_of ms) → Roomy kind ms → length state ≡ state_size
    → Accepts (called (Begin kind n key nonce (length (joined ads))) state)
    × Finishes kind n key nonce (joined ads) (text_of ms) (played (begun_at kind n key nonce (length (joined ads)) state) (script kind ads ms))
