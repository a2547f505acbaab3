-- The calls by what the state holds and by the rows before the tag's.
-- Assumes nothing.
use mathlib.Core.Path.{◌≡◌, refl, sym, ap, ap₂, ◌∙◌}
use mathlib.Core.Logic.{◌≢◌}
use mathlib.Core.Bool.{Bool, true, false, true≢false, cond, not}
use mathlib.Core.List.{List, [], ◌∷◌}
use Prim.Native.Nat.{ℕ, ◌+◌, ◌<◌, ◌≤◌}
use native.Mathlib.Omega.{arith}
use borrow.Author.Tests.{eq-eqb, ltb-false, le-ltb}
use lib.Dec.{eqb, ltb}
use lib.ListN.{length}
use Rattle.bits.specs.Bytes.{Bytes, same}
use Rattle.refusals.specs.declared.Refusal.{Refusal}
use Rattle.refusals.specs.declared.Refusal.TheVariants.{KeySize, NonceSize, AdTooLong, TagDiffers, UnsoundState, BlankKey, UnknownEdition}
use Rattle.refusals.specs.Refusals.{Check, Answer, Row, ◌when◌, among, after, check, passed}
use Rattle.std.specs.Prelude.{Option, None, Some, Ok, Err, MatchResult}
use Rattle.std.specs.Option.{ok_or, is_some, IsSome}
use Rattle.std.proofs.lemmas.Option.{cond_some}
use Rattle.std.proofs.lemmas.Bool.Decides.{nat_tests}
use Rattle.refusals.proofs.LastRow.{check-last}
use Rattle.key.specs.Sizes.{key_size, nonce_size}
use Rattle.key.specs.BlankKey.{blank_key}
use Rattle.key.proofs.BlankKey.{not_blank, unequal_not_blank}
use Rattle.machine.specs.declared.edition.Edition.{Edition}
use Rattle.startup.specs.Naming.{known, named}
use Rattle.payload.specs.Sizes.{tag_size}
use Rattle.limits.specs.Limits.{message_limit}
use Rattle.grain128aead.specs.Sizes.{ad_limit}
use Rattle.stream_checks.specs.declared.counts.Kind.{Kind}
use Rattle.stream_checks.specs.declared.counts.Kind.TheVariants.{Sealing, Checking}
use Rattle.stream_checks.specs.declared.counts.Counts.{Counts}
use Rattle.stream_checks.specs.Counts.{ad_out_of_turn, out_of_turn, too_long}
use Rattle.stream_checks.specs.Order.{beginning, before_tag, others}
use Rattle.stream_checks.specs.Rows.{state_size, begin_rows, rows}
use Rattle.stream_state.specs.declared.Session.{Session}
use Rattle.stream_state.specs.Stream.{Stream, stream_of, clocks_so_far}
use Rattle.stream_state.specs.Layout as layout
use Rattle.stream_state.specs.Layout.{read, sound, held, held_of}
use Rattle.stream_state.proofs.Inverse.{inverse, soundly}
use Rattle.streams.specs.Going.{Holds, begun, tag_of}
use Rattle.streams.specs.Calls.{Call, Begin, Ad, Message, Ciphertext, FinishSealing, FinishChecking, order, next, produced, lent, step, accepted, settled, on_stream, called}
use Rattle.streams.specs.Calls as calls

-- ---- what the state holds

-- What reading it comes to.
pub got : (s : List ℕ) (r : Option Session) → held_of r ≡ held message_limit s
    → MatchResult (ok_or r UnsoundState) (λ x. Holds s x) (λ q. (q ≡ UnsoundState) × (sound message_limit s ≡ false))
unfolding held
got s None h = (refl, grind (arith, nat_tests))
got s (Some x) h = record { soundly = grind (arith, nat_tests); stream = grind (arith, nat_tests) }

module _ {s : List ℕ} {x : Session} (h : Holds s x) where
  pub state-sized : length s ≡ state_size
  state-sized = (soundly message_limit s h.soundly).size

  pub announced-small : Bytes s → x.counts.announced < 65536
  unfolding stream_of
  announced-small is_bytes = rw (ap (λ (y : Stream). y.counts.announced) h.stream) at ((inverse message_limit).occurs s is_bytes h.soundly).announced

  called-sound : (c : Call) → called c s ≡ on_stream c false (stream_of x) s
  unfolding called
  called-sound c = ap₂ (λ (b : Bool) (y : Stream). on_stream c (not b) y s) h.soundly h.stream

-- ---- the rows before the tag's

module _ (out_of_turn too_long wrong_size no_room : Bool) where
  -- What the rows before the tag's come to on a sound state.
  abbrev pub judgement : Check
  judgement = check before_tag (among (rows false out_of_turn too_long wrong_size no_room false))

  pub record NoneApplies : Type 0 where
    pub in_turn : out_of_turn ≡ false
    pub fits : too_long ≡ false
    pub sized : wrong_size ≡ false
    pub room : no_room ≡ false

  pub passed_clear : judgement ≡ passed → NoneApplies
  unfolding before_tag rows among check
  passed_clear h = record { in_turn = grind (arith, nat_tests); fits = grind (arith, nat_tests); sized = grind (arith, nat_tests); room = grind (arith, nat_tests) }

  pub clear_passed : NoneApplies → judgement ≡ passed
  unfolding before_tag rows among check
  clear_passed clear = λ i. check before_tag (among (rows false (clear.in_turn i) (clear.fits i) (clear.sized i) (clear.room i) false))

pub none_applies : {out_of_turn too_long wrong_size no_room : Bool} {d : Check} → d ≡ judgement out_of_turn too_long wrong_size no_room → d ≡ passed
    → NoneApplies out_of_turn too_long wrong_size no_room
none_applies judged was = passed_clear _ _ _ _ (sym judged ∙ was)

-- A message that is not too long is counted in two bytes.
pub message_fits_lem : (c : Counts) (n : ℕ) → too_long message_limit c n ≡ false → c.message + n < 65536
unfolding message_limit
message_fits_lem c n h = omega (arith, ltb-false message_limit (c.message + n) h)

-- Of each call but begin: which rows before the tag's apply, and whether the tag's does.
abbrev pub judgement_of : Call → Counts → Check
judgement_of (Begin kind n key nonce announced) c = passed
judgement_of (Ad kind piece) c = judgement (ad_out_of_turn kind c (length piece)) false false false
judgement_of (Message piece out) c = judgement (out_of_turn Sealing c) (too_long message_limit c (length piece)) false (ltb (length out) (length piece))
judgement_of (Ciphertext piece) c = judgement (out_of_turn Checking c) (too_long message_limit c (length piece)) false false
judgement_of (FinishSealing out) c = judgement (out_of_turn Sealing c) false false (ltb (length out) tag_size)
judgement_of (FinishChecking tag) c = judgement (out_of_turn Checking c) false (not (eqb (length tag) tag_size)) false

abbrev pub wrong_tag : Call → Stream → Bool
wrong_tag (Begin kind n key nonce announced) x = false
wrong_tag (Ad kind piece) x = false
wrong_tag (Message piece out) x = false
wrong_tag (Ciphertext piece) x = false
wrong_tag (FinishSealing out) x = false
wrong_tag (FinishChecking tag) x = not (same tag (tag_of x))

abbrev pub GoesOn : Call → Type 0
GoesOn (Begin kind n key nonce announced) = ⊥
GoesOn (Ad kind piece) = Unit
GoesOn (Message piece out) = Unit
GoesOn (Ciphertext piece) = Unit
GoesOn (FinishSealing out) = Unit
GoesOn (FinishChecking tag) = Unit

-- The tag's row is tried after the others, and one of a state that is not sound before them.
going_check : (o t w n d : Bool) → check others (among (rows false o t w n d)) ≡ after (judgement o t w n) TagDiffers d
unfolding others before_tag rows among check
going_check o t w n d = check-last before_tag TagDiffers (among (rows false o t w n d))

going_unsound : (o t w n d : Bool) → check others (among (rows true o t w n d)) ≡ Err UnsoundState
unfolding others before_tag rows among check
going_unsound o t w n d = refl

by_judgement : (c : Call) → GoesOn c → (size : ℕ) (x : Stream) → check (order c) (among (calls.rows c size false x)) ≡ after (judgement_of c x.counts) TagDiffers (wrong_tag c x)
by_judgement (Begin kind n key nonce announced) on size x = absurd on
by_judgement (Ad kind piece) on size x = going_check _ _ _ _ _
by_judgement (Message piece out) on size x = going_check _ _ _ _ _
by_judgement (Ciphertext piece) on size x = going_check _ _ _ _ _
by_judgement (FinishSealing out) on size x = going_check _ _ _ _ _
by_judgement (FinishChecking tag) on size x = going_check _ _ _ _ _

not_sound : (c : Call) → GoesOn c → (size : ℕ) (x : Stream) → check (order c) (among (calls.rows c size true x)) ≡ Err UnsoundState
not_sound (Begin kind n key nonce announced) on size x = absurd on
not_sound (Ad kind piece) on size x = going_unsound _ _ _ _ _
not_sound (Message piece out) on size x = going_unsound _ _ _ _ _
not_sound (Ciphertext piece) on size x = going_unsound _ _ _ _ _
not_sound (FinishSealing out) on size x = going_unsound _ _ _ _ _
not_sound (FinishChecking tag) on size x = going_unsound _ _ _ _ _

module _ (c : Call) (on : GoesOn c) where
  pub called_unsound : (s : List ℕ) → sound message_limit s ≡ false → step (Err UnsoundState) s (lent c) ≡ called c s
  unfolding called settled
  called_unsound s h =
      sym (ap (λ (b : Bool). on_stream c (not b) (read s) s) h ∙ ap (λ (d : Check). settled d (next c (read s)) (produced c (read s)) s (lent c)) (not_sound c on (length s) (read s)))

  -- A call on a stream by its rows.
  pub on_stream_lem : (x : Stream) (s : List ℕ) (d : Check) (b : Bool) → judgement_of c x.counts ≡ d → wrong_tag c x ≡ b
      → on_stream c false x s ≡ settled (after d TagDiffers b) (next c x) (produced c x) s (lent c)
  on_stream_lem x s d b h k = ap (λ (e : Check). settled e (next c x) (produced c x) s (lent c)) (by_judgement c on (length s) x ∙ ap₂ (λ (e : Check) (t : Bool). after e TagDiffers t) h k)

  module _ {s : List ℕ} {x : Session} (h : Holds s x) where
    pub called_failed : {q : Refusal} → judgement_of c x.counts ≡ Err q → step (Err q) s (lent c) ≡ called c s
    unfolding settled stream_of
    called_failed {q} j = sym (called-sound h c ∙ on_stream_lem (stream_of x) s (Err q) _ j refl)

    pub called_passed : judgement_of c x.counts ≡ passed → wrong_tag c (stream_of x) ≡ false → accepted (next c (stream_of x)) (produced c (stream_of x)) (lent c) ≡ called c s
    unfolding settled stream_of
    called_passed j t = sym (called-sound h c ∙ on_stream_lem (stream_of x) s passed false j t)

    pub called_differs : judgement_of c x.counts ≡ passed → wrong_tag c (stream_of x) ≡ true → step (Err TagDiffers) s (lent c) ≡ called c s
    unfolding settled stream_of
    called_differs j t = sym (called-sound h c ∙ on_stream_lem (stream_of x) s passed true j t)

-- ---- a stream that goes on

-- What writing a stream and answering its clocks comes to, with the output that was written before.
pub put_step : (y : Session) {x : Stream} (s : List ℕ) {exit out o : List ℕ} {a : Answer} → length s ≡ state_size → stream_of y ≡ x
    → a ≡ Ok (clocks_so_far (stream_of y)) → exit ≡ cond (eqb (length s) state_size) (layout.written (stream_of y)) s → out ≡ o
    → step a exit out ≡ step (Ok (clocks_so_far x)) (layout.written x) o
put_step y {x} s size same counted stored e = λ i. step
    ((counted ∙ ap (λ (z : Stream). Ok (clocks_so_far z)) same) i)
    ((stored ∙ ap (λ (b : Bool). cond b (layout.written (stream_of y)) s) (eq-eqb (length s) state_size size) ∙ ap layout.written same) i)
    (e i)

-- ---- begin

-- The edition that a number names, if it names one.
module _ (n : ℕ) {named_by : Option Edition} (by_number : named_by ≡ cond (known n) (Some (named n)) None) where
  pub names_none : {u : Bool} → is_some named_by ≡ not u → u ≡ not (known n)
  names_none {u} e = go (known n) u (sym (ap is_some by_number) ∙ e)
    where
      go : (b v : Bool) → is_some (cond b (Some (named n)) None) ≡ not v → v ≡ not b
      go true true h = absurd (true≢false h)
      go true false h = refl
      go false true h = refl
      go false false h = absurd (true≢false (sym h))

  pub names_one : known n ≡ true → IsSome named_by
  names_one e = ap is_some by_number ∙ ap (λ (b : Bool). is_some (cond b (Some (named n)) None)) e

  pub names_it : {e : Edition} → named_by ≡ Some e → e ≡ named n
  names_it {e} is = sym (cond_some (known n) (named n) e (sym by_number ∙ is)).1

pub record Begins (n : ℕ) (key nonce : List ℕ) (announced size : ℕ) : Type 0 where
  pub edition : known n ≡ true
  pub key_sized : length key ≡ key_size
  pub nonce_sized : length nonce ≡ nonce_size
  pub key_not_blank : key ≢ blank_key
  pub ad_fits : announced ≤ ad_limit
  pub sized : size ≡ state_size

module _ (kind : Kind) (n : ℕ) (key nonce : List ℕ) (announced : ℕ) (s : List ℕ) where
  -- What the rows of begin come to.
  abbrev pub begin_judgement : Check
  begin_judgement = check beginning (among (begin_rows (not (known n)) key nonce announced ad_limit (length s)))

  pub begins : begin_judgement ≡ passed → Begins n key nonce announced (length s)
  unfolding beginning begin_rows among check
  begins h = record {
    edition = grind (arith, nat_tests);
    key_sized = grind (arith, nat_tests);
    nonce_sized = grind (arith, nat_tests);
    key_not_blank = not_blank key (grind (arith, nat_tests));
    ad_fits = grind (arith, nat_tests);
    sized = grind (arith, nat_tests);
  }

  pub begins_passed : Begins n key nonce announced (length s) → begin_judgement ≡ passed
  unfolding beginning begin_rows among check
  begins_passed b = λ i. check beginning (among (rows_of (ap not b.edition i) (ap not (eq-eqb (length key) key_size b.key_sized) i) (ap not (eq-eqb (length nonce) nonce_size b.nonce_sized) i) (unequal_not_blank key b.key_not_blank i) (le-ltb ad_limit announced b.ad_fits i) (ap not (eq-eqb (length s) state_size b.sized) i)))
    where
      rows_of : (u k m l a z : Bool) → List Row
      rows_of u k m l a z = (UnknownEdition when u) ∷ (KeySize when k) ∷ (NonceSize when m) ∷ (BlankKey when l) ∷ (AdTooLong when a) ∷ (UnsoundState when z) ∷ []

  pub called-begin : (d : Check) → begin_judgement ≡ d → called (Begin kind n key nonce announced) s ≡ settled d (begun kind (named n) key nonce announced) [] s []
  unfolding called
  called-begin d h = ap (λ (c : Check). settled c (begun kind (named n) key nonce announced) [] s []) h

  pub begin_failed : {q : Refusal} → begin_judgement ≡ Err q → step (Err q) s [] ≡ called (Begin kind n key nonce announced) s
  unfolding settled
  begin_failed {q} h = sym (called-begin (Err q) h)

  pub begin_passed : begin_judgement ≡ passed → accepted (begun kind (named n) key nonce announced) [] [] ≡ called (Begin kind n key nonce announced) s
  unfolding settled
  begin_passed h = sym (called-begin passed h)
