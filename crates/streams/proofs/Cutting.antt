-- Any cutting: what holds after every sequence of calls, by one induction over the calls for both kinds of streams.
-- Assumes nothing.
use mathlib.Core.Path.{◌≡◌, refl, sym, ap, ap₂, ◌∙◌, subst}
use mathlib.Core.Logic.{◌⊎◌, inl, inr, ⊎_elim}
use mathlib.Core.Bool.{Bool, true, false, true≢false, not}
use mathlib.Core.List.{List, [], ◌∷◌, ◌++◌, append-nil}
use Prim.Native.Nat.{ℕ, ◌+◌, ◌≤◌}
use native.Mathlib.Omega.{arith}
use borrow.Author.Tests.{ltb-false, not-false}
use lib.ListN.{length, take, drop, length-append}
use lib.Seq.{take_at}
use Rattle.bits.specs.Bit.{digit}
use Rattle.bits.specs.Bytes.{bytes}
use Rattle.bits.proofs.Packing.{same_equal}
use Rattle.refusals.specs.declared.Refusal.{Refusal}
use Rattle.refusals.specs.declared.Refusal.TheVariants.{TagDiffers}
use Rattle.refusals.specs.Refusals.{Check, Answer, passed}
use Rattle.std.specs.Prelude.{Ok, Err}
use Rattle.refusals.proofs.Demand1.{count-not-refused}
use Rattle.startup.specs.Editions.{bytes_in}
use Rattle.startup.specs.Naming.{named}
use Rattle.startup.proofs.Order.{length-bytes_in, ordered-none}
use Rattle.payload.specs.Sizes.{tag_size}
use Rattle.payload.specs.Payload.{ciphertext, tag}
use Rattle.payload.proofs.Machine.{states}
use Rattle.limits.specs.Limits.{message_limit}
use Rattle.grain128aead.specs.Sizes.{ad_limit}
use Rattle.stream_checks.specs.declared.counts.Kind.{Kind}
use Rattle.stream_checks.specs.declared.counts.Kind.TheVariants.{Sealing, Checking}
use Rattle.stream_checks.specs.Counts.{number, ad_out_of_turn, out_of_turn, too_long}
use Rattle.stream_checks.proofs.Turns.{ad-in_turn, in_turn_lem, can_occur_lem}
use Rattle.stream_state.specs.Stream.{Stream, clocks_so_far}
use Rattle.stream_state.specs.Layout as layout
use Rattle.stream_state.specs.Layout.{read, sound}
use Rattle.stream_state.specs.Laws.{Occurs}
use Rattle.stream_state.proofs.Inverse.{read-written, sound-written}
use Rattle.streams.specs.Going.{begun, with_text, cipher, finished, tag_of}
use Rattle.streams.specs.Calls.{Call, Begin, Ad, Message, Ciphertext, FinishSealing, FinishChecking, next, produced, lent, Step, step, accepted, settled, on_stream, called}
use Rattle.streams.specs.History.{History, Play, fresh, with, accepting, after, play, played, message, reached, clocks_of}
use Rattle.streams.specs.Cutting.{Legal, handed_out}
use Rattle.streams.proofs.Reached.{clocked, begun-reached, ad_goes_on, ad-stays, text_goes_on, cipher_goes_on, finish_goes_on, tag-reached}
use Rattle.streams.proofs.Settled.{passed_clear, judgement_of, wrong_tag, GoesOn, on_stream_lem, begin_judgement, begins, Begins, called-begin}

-- ---- what holds of a history

-- A history is legal, what was handed out is the ciphertext so far, and after finish the tag is the one of the whole string.
pub record Kept (h : History) : Type 0 where
  pub legal : Legal h
  pub output : h.output ≡ handed_out h.kind h
  pub tagged : h.ended ≡ true → h.tag ≡ tag h.edition h.key h.nonce h.ad (message h)

-- The stream that a legal history has reached can occur.
pub occurs : (h : History) → Legal h → Occurs message_limit (reached h)
unfolding reached ad_limit message_limit
occurs h l = record {
  sized = states h.edition h.key h.nonce _ l.key_sized l.nonce_sized;
  announced = omega (arith, l.announced_fits);
  ad = omega (arith, l.announced_fits, l.ad_fits);
  message = omega (arith, l.text_fits);
  counted =
      can_occur_lem message_limit (reached h).counts (kinds h.kind) (phases h.ended) l.ad_fits (⊎_elim (λ (n : h.text ≡ []). inl (ap length n)) (λ (full : length h.ad ≡ h.announced). inr full) l.text_behind_ad) l.text_fits
      (behind h.ended l.ended_behind_ad);
}
  where
    kinds : (k : Kind) → (number k ≡ 1) ⊎ (number k ≡ 2)
    kinds Sealing = inl refl
    kinds Checking = inr refl

    phases : (b : Bool) → (digit b ≡ 0) ⊎ (digit b ≡ 1)
    phases true = inr refl
    phases false = inl refl

    behind : (b : Bool) → (b ≡ true → length h.ad ≡ h.announced) → (digit b ≡ 0) ⊎ (length h.ad ≡ h.announced)
    behind true full = inr (full refl)
    behind false full = inl refl

-- A legal history with these in place of its own is legal as far as they are.
legal-with : (h : History) {ad text output : List ℕ} {ended : Bool} {tag : List ℕ} → Legal h → length ad ≤ h.announced → (text ≡ []) ⊎ (length ad ≡ h.announced) → length text ≤ message_limit
    → (ended ≡ true → length ad ≡ h.announced) → Legal (with h ad text output ended tag)
legal-with h l ad behind text ended = record {
  key_sized = l.key_sized;
  nonce_sized = l.nonce_sized;
  key_not_blank = l.key_not_blank;
  announced_fits = l.announced_fits;
  ad_fits = ad;
  text_behind_ad = behind;
  text_fits = text;
  ended_behind_ad = ended;
}

-- ---- a call that is accepted

not-ended : (b : Bool) → digit b ≡ 0 → b ≡ false
not-ended true h = absurd (omega arith)
not-ended false h = refl

same_kind : (k kind : Kind) → number k ≡ number kind → k ≡ kind
same_kind Sealing Sealing h = refl
same_kind Sealing Checking h = absurd (omega arith)
same_kind Checking Sealing h = absurd (omega arith)
same_kind Checking Checking h = refl

-- A call on the stream that is reached is in its turn: message, ciphertext and finish; and a piece of AD of n bytes.
pub record TurnOf (h : History) (kind : Kind) : Type 0 where
  pub kinds : h.kind ≡ kind
  pub unended : h.ended ≡ false
  pub full : length h.ad ≡ h.announced

pub turn_of : (h : History) (kind : Kind) → out_of_turn kind (reached h).counts ≡ false → TurnOf h kind
unfolding reached
turn_of h kind o = let i = in_turn_lem kind (reached h).counts o in record { kinds = same_kind h.kind kind i.0.kinds; unended = not-ended h.ended i.0.unended; full = i.1 }

pub ad_turn_of : (h : History) (kind : Kind) (n : ℕ) → ad_out_of_turn kind (reached h).counts n ≡ false → (h.kind ≡ kind) × (h.ended ≡ false) × (length h.ad + n ≤ h.announced)
unfolding reached
ad_turn_of h kind n o = let i = ad-in_turn kind (reached h).counts n o in (same_kind h.kind kind i.0.kinds, not-ended h.ended i.0.unended, i.1)

empty : (s : List ℕ) → length s ≡ 0 → s ≡ []
empty [] h = refl
empty (x ∷ s) h = absurd (omega arith)

-- The history to which it leads: the stream goes on to what that has reached.
pub record Leads (x : Stream) (h : History) : Type 0 where
  pub same : x ≡ reached h
  pub kept : Kept h

-- The ciphertext of no message.
no_ciphertext : (h : History) (ad : List ℕ) → ciphertext h.edition h.key h.nonce ad [] ≡ []
unfolding ciphertext bytes_in bytes
no_ciphertext h ad = ordered-none h.edition

module _ (h : History) (k : Kept h) where
  -- What a call on the stream that is reached writes, and its output afterwards.
  abbrev output_of_lem : Call → List ℕ
  output_of_lem c = produced c (reached h) ++ drop (length (produced c (reached h))) (lent c)

  abbrev LeadsOn : Call → Type 0
  LeadsOn c = Leads (next c (reached h)) (accepting c (output_of_lem c) h)

  -- A piece of AD where there is no message yet, and an empty one.
  ad-first : (kind : Kind) (piece : List ℕ) → h.ended ≡ false → length h.ad + length piece ≤ h.announced → h.text ≡ [] → LeadsOn (Ad kind piece)
  ad-first kind piece unended fits none = record {
    same = ad_goes_on h piece (h.output ++ []) unended none;
    kept = record {
      legal = legal-with h k.legal (omega (arith, length-append h.ad piece, fits)) (inl none) k.legal.text_fits (λ ended. absurd (true≢false (sym ended ∙ unended)));
      output = append-nil h.output ∙ k.output ∙ handed h.kind;
      tagged = λ ended. absurd (true≢false (sym ended ∙ unended));
    };
  }
    where
      h' : History
      h' = with h (h.ad ++ piece) h.text (h.output ++ []) h.ended h.tag

      none_of : (ad : List ℕ) → ciphertext h.edition h.key h.nonce ad h.text ≡ []
      none_of ad = ap (ciphertext h.edition h.key h.nonce ad) none ∙ no_ciphertext h ad

      handed : (kind : Kind) → handed_out kind h ≡ handed_out kind h'
      handed Sealing = none_of h.ad ∙ sym (none_of (h.ad ++ piece))
      handed Checking = refl

  ad_empty : (kind : Kind) (piece : List ℕ) → piece ≡ [] → LeadsOn (Ad kind piece)
  ad_empty kind piece none =
      subst (λ (s : List ℕ). LeadsOn (Ad kind s)) (sym none)
      (record { same = ad-stays h (h.output ++ []); kept = subst Kept (ap₂ (λ (s o : List ℕ). with h s h.text o h.ended h.tag) (sym (append-nil h.ad)) (sym (append-nil h.output))) k })

  ad_leads : (kind : Kind) (piece : List ℕ) → judgement_of (Ad kind piece) (reached h).counts ≡ passed → LeadsOn (Ad kind piece)
  ad_leads kind piece passed =
      let turn = ad_turn_of h kind (length piece) (passed_clear _ _ _ _ passed).in_turn in
      ⊎_elim (λ (none : h.text ≡ []). ad-first kind piece turn.1 turn.2 none)
      (λ (full : length h.ad ≡ h.announced). let z : length piece ≡ 0 = omega (arith, full, turn.2) in ad_empty kind piece (empty piece z)) k.legal.text_behind_ad

  fitting : (piece : List ℕ) → too_long message_limit (reached h).counts (length piece) ≡ false → length (h.text ++ piece) ≤ message_limit
  unfolding reached
  fitting piece fits = omega (arith, length-append h.text piece, ltb-false message_limit (length h.text + length piece) fits)

  -- A piece of text.
  text_kept : (piece output : List ℕ) {kind : Kind} → TurnOf h kind → length (h.text ++ piece) ≤ message_limit
      → output ≡ handed_out h.kind (with h h.ad (h.text ++ piece) output h.ended h.tag) → Kept (with h h.ad (h.text ++ piece) output h.ended h.tag)
  text_kept piece output i fits handed = record {
    legal = legal-with h k.legal k.legal.ad_fits (inr i.full) (fits) (λ ended. i.full);
    output = handed;
    tagged = λ ended. absurd (true≢false (sym ended ∙ i.unended));
  }

  message_leads : (piece out : List ℕ) → judgement_of (Message piece out) (reached h).counts ≡ passed → LeadsOn (Message piece out)
  message_leads piece out passed = record {
    same = ap (λ (kind : Kind). with_text kind (reached h) piece) (sym i.kinds) ∙ text_goes_on h piece output i.unended i.full;
    kept = text_kept piece output i (fitting piece (passed_clear _ _ _ _ passed).fits) handed;
  }
    where
      i : TurnOf h Sealing
      i = turn_of h Sealing (passed_clear _ _ _ _ passed).in_turn

      output : List ℕ
      output = h.output ++ take (length piece) (output_of_lem (Message piece out))

      handed : output ≡ handed_out h.kind (with h h.ad (h.text ++ piece) output h.ended h.tag)
      handed =
          ap₂ ◌++◌ (k.output ∙ ap (λ (kind : Kind). handed_out kind h) i.kinds) (take_at (cipher (reached h) piece) _ (length piece) (length-bytes_in (reached h).machine.edition (length piece) _))
          ∙ cipher_goes_on h piece output i.unended i.full i.kinds
          ∙ sym (ap (λ (kind : Kind). handed_out kind (with h h.ad (h.text ++ piece) output h.ended h.tag)) i.kinds)

  ciphertext_leads : (piece : List ℕ) → judgement_of (Ciphertext piece) (reached h).counts ≡ passed → LeadsOn (Ciphertext piece)
  ciphertext_leads piece passed = record {
    same = ap (λ (kind : Kind). with_text kind (reached h) piece) (sym i.kinds) ∙ text_goes_on h piece (h.output ++ []) i.unended i.full;
    kept = text_kept piece (h.output ++ []) i (fitting piece (passed_clear _ _ _ _ passed).fits) (append-nil h.output ∙ k.output ∙ handed h.kind i.kinds);
  }
    where
      i : TurnOf h Checking
      i = turn_of h Checking (passed_clear _ _ _ _ passed).in_turn

      h' : History
      h' = with h h.ad (h.text ++ piece) (h.output ++ []) h.ended h.tag

      handed : (kind : Kind) → kind ≡ Checking → handed_out kind h ≡ handed_out kind h'
      handed Sealing e = absurd (let z = ap number e in omega (arith, z))
      handed Checking e = refl

  -- Finish.
  finish_leads : (kind : Kind) (output given : List ℕ) → TurnOf h kind → output ≡ h.output → given ≡ tag_of (reached h) → Leads (finished (reached h)) (with h h.ad h.text output true given)
  finish_leads kind output given i written right = record {
    same = finish_goes_on h i.unended output given;
    kept = record {
      legal = legal-with h k.legal k.legal.ad_fits (inr i.full) k.legal.text_fits (λ ended. i.full);
      output = written ∙ k.output ∙ handed h.kind;
      tagged = λ ended. right ∙ tag-reached h i.unended i.full;
    };
  }
    where
      handed : (kind : Kind) → handed_out kind h ≡ handed_out kind (with h h.ad h.text output true given)
      handed Sealing = refl
      handed Checking = refl

  -- Every call but begin.
  leads_on : (c : Call) → GoesOn c → judgement_of c (reached h).counts ≡ passed → wrong_tag c (reached h) ≡ false → LeadsOn c
  leads_on (Begin kind n key nonce announced) on clear right = absurd on
  leads_on (Ad kind piece) on clear right = ad_leads kind piece clear
  leads_on (Message piece out) on clear right = message_leads piece out clear
  leads_on (Ciphertext piece) on clear right = ciphertext_leads piece clear
  leads_on (FinishSealing out) on clear right =
      finish_leads Sealing h.output _ (turn_of h Sealing (passed_clear _ _ _ _ clear).in_turn) refl (take_at (tag_of (reached h)) _ tag_size (length-bytes_in (reached h).machine.edition tag_size _))
  leads_on (FinishChecking given) on clear right =
      finish_leads Checking (h.output ++ []) given (turn_of h Checking (passed_clear _ _ _ _ clear).in_turn) (append-nil h.output) (same_equal given (tag_of (reached h)) (not-false _ right))

-- The clocks that are answered are those of the history to which the call leads.
counted : {a : Answer} {m : ℕ} {x : Stream} {h : History} → a ≡ Ok m → a ≡ Ok (clocks_so_far x) → Leads x h → m ≡ length (clocks_of h)
counted {h = h} p q l = let k = (clocked h l.kept.legal).count in let same = l.same in cc

-- Begin.
begin_leads : (kind : Kind) (n : ℕ) (key nonce : List ℕ) (announced : ℕ) {size : ℕ} → Begins n key nonce announced size → Leads (begun kind (named n) key nonce announced) (fresh kind n key nonce announced)
begin_leads kind n key nonce announced b = record {
  same = begun-reached (fresh kind n key nonce announced) refl refl refl;
  kept = record {
    legal = record {
      key_sized = b.key_sized;
      nonce_sized = b.nonce_sized;
      key_not_blank = b.key_not_blank;
      announced_fits = b.ad_fits;
      ad_fits = omega arith;
      text_behind_ad = inl refl;
      text_fits = omega arith;
      ended_behind_ad = λ ended. absurd (true≢false (sym ended));
    };
    output = handed kind;
    tagged = λ ended. absurd (true≢false (sym ended));
  };
}
  where
    handed : (kind : Kind) → [] ≡ handed_out kind (fresh kind n key nonce announced)
    handed Sealing = sym (no_ciphertext (fresh Sealing n key nonce announced) [])
    handed Checking = refl

-- ---- a state and its history, and the next call

pub record Follows (p : Play) : Type 0 where
  pub state : p.state ≡ layout.written (reached p.history)
  pub kept : Kept p.history

-- A call is refused, or it is accepted and the stream goes on to what the new history has reached.
module _ (p : Play) (c : Call) where
  abbrev reached_now : Stream
  reached_now = reached p.history

  abbrev RefusedNow : Type 0
  RefusedNow = (r : Refusal) × (called c p.state ≡ step (Err r) p.state (lent c))

  abbrev AcceptedNow : Type 0
  AcceptedNow =
      (called c p.state ≡ accepted (next c reached_now) (produced c reached_now) (lent c))
      × Leads (next c reached_now) (accepting c (produced c reached_now ++ drop (length (produced c reached_now)) (lent c)) p.history)

module _ (p : Play) (f : Follows p) where
  -- The next call goes by the stream that is reached.
  pub next-goes : (c : Call) → called c p.state ≡ on_stream c false (reached p.history) p.state
  unfolding called
  next-goes c =
      let o = occurs p.history f.kept.legal in
      ap₂ (λ (b : Bool) (y : Stream). on_stream c (not b) y p.state) (ap (sound message_limit) f.state ∙ sound-written (reached p.history) message_limit o) (ap read f.state ∙ read-written (reached p.history) message_limit o)

  view_going : (c : Call) → GoesOn c → RefusedNow p c ⊎ AcceptedNow p c
  unfolding settled
  view_going c on = go (judgement_of c (reached p.history).counts) (wrong_tag c (reached p.history)) refl refl
    where
      go : (d : Check) (b : Bool) → judgement_of c (reached p.history).counts ≡ d → wrong_tag c (reached p.history) ≡ b → RefusedNow p c ⊎ AcceptedNow p c
      go (Err r) b j w = inl (r, next-goes c ∙ on_stream_lem c on (reached p.history) p.state (Err r) b j w)
      go (Ok u) true j w = inl (TagDiffers, next-goes c ∙ on_stream_lem c on (reached p.history) p.state passed true j w)
      go (Ok u) false j w = inr (next-goes c ∙ on_stream_lem c on (reached p.history) p.state passed false j w, leads_on p.history f.kept c on j w)

  view_begin : (kind : Kind) (n : ℕ) (key nonce : List ℕ) (announced : ℕ) → RefusedNow p (Begin kind n key nonce announced) ⊎ AcceptedNow p (Begin kind n key nonce announced)
  unfolding settled
  view_begin kind n key nonce announced = go (begin_judgement kind n key nonce announced p.state) refl
    where
      go : (d : Check) → begin_judgement kind n key nonce announced p.state ≡ d → RefusedNow p (Begin kind n key nonce announced) ⊎ AcceptedNow p (Begin kind n key nonce announced)
      go (Err r) j = inl (r, called-begin kind n key nonce announced p.state (Err r) j)
      go (Ok u) j = inr (called-begin kind n key nonce announced p.state passed j, begin_leads kind n key nonce announced (begins kind n key nonce announced p.state j))

  view : (c : Call) → RefusedNow p c ⊎ AcceptedNow p c
  view (Begin kind n key nonce announced) = view_begin kind n key nonce announced
  view (Ad kind piece) = view_going (Ad kind piece) tt
  view (Message piece out) = view_going (Message piece out) tt
  view (Ciphertext piece) = view_going (Ciphertext piece) tt
  view (FinishSealing out) = view_going (FinishSealing out) tt
  view (FinishChecking given) = view_going (FinishChecking given) tt

  -- After the call, refused or accepted.
  pub follows_on : (c : Call) → Follows (play p c)
  follows_on c = ⊎_elim refused goes (view c)
    where
      refused : RefusedNow p c → Follows (play p c)
      refused v = subst (λ (t : Step). Follows (after c t p.history)) (sym v.1) f

      goes : AcceptedNow p c → Follows (play p c)
      goes v = subst (λ (t : Step). Follows (after c t p.history)) (sym v.0) (record { state = ap layout.written v.1.same; kept = v.1.kept })

  pub stays : (c : Call) (r : Refusal) → (called c p.state).answer ≡ Err r → (called c p.state ≡ step (Err r) p.state (lent c)) × (play p c ≡ p)
  stays c r e = ⊎_elim refused goes (view c)
    where
      same-refusal : {q q' : Refusal} → ◌≡◌ {A = Answer} (Err q) (Err q') → q ≡ q'
      same-refusal h = cc

      refused : RefusedNow p c → (called c p.state ≡ step (Err r) p.state (lent c)) × (play p c ≡ p)
      refused v = (v.1 ∙ ap (λ (q : Refusal). step (Err q) p.state (lent c)) (same-refusal (sym (ap (λ (t : Step). t.answer) v.1) ∙ e)), ap (λ (t : Step). after c t p.history) v.1)

      goes : AcceptedNow p c → (called c p.state ≡ step (Err r) p.state (lent c)) × (play p c ≡ p)
      goes v = absurd (count-not-refused refl (sym (ap (λ (t : Step). t.answer) v.0) ∙ e))

  pub answers : (c : Call) (n : ℕ) → (called c p.state).answer ≡ Ok n → n ≡ length (clocks_of (play p c).history)
  answers c n e = ⊎_elim refused goes (view c)
    where
      refused : RefusedNow p c → n ≡ length (clocks_of (play p c).history)
      refused v = absurd (count-not-refused e (ap (λ (t : Step). t.answer) v.1))

      goes : AcceptedNow p c → n ≡ length (clocks_of (play p c).history)
      goes v = counted e (ap (λ (t : Step). t.answer) v.0) v.1 ∙ sym (ap (λ (t : Step). length (clocks_of (after c t p.history).history)) v.0)

-- By induction over the calls.
pub follows : (p : Play) → Follows p → (calls : List Call) → Follows (played p calls)
unfolding played
follows p f [] = f
follows p f (c ∷ calls) = follows (play p c) (follows_on p f c) calls

-- After an accepted begin, whatever the state held.
module _ (kind : Kind) (n : ℕ) (key nonce : List ℕ) (announced : ℕ) (s : List ℕ) where
  abbrev begin : Call
  begin = Begin kind n key nonce announced

  begin_view : {m : ℕ} → (called begin s).answer ≡ Ok m
      → (called begin s ≡ accepted (begun kind (named n) key nonce announced) [] []) × Leads (begun kind (named n) key nonce announced) (fresh kind n key nonce announced)
  unfolding settled
  begin_view a = go (begin_judgement kind n key nonce announced s) refl
    where
      go : (d : Check) → begin_judgement kind n key nonce announced s ≡ d
          → (called begin s ≡ accepted (begun kind (named n) key nonce announced) [] []) × Leads (begun kind (named n) key nonce announced) (fresh kind n key nonce announced)
      go (Err r) j = absurd (count-not-refused a (ap (λ (t : Step). t.answer) (called-begin kind n key nonce announced s (Err r) j)))
      go (Ok u) j = (called-begin kind n key nonce announced s passed j, begin_leads kind n key nonce announced (begins kind n key nonce announced s j))

  pub begin_follows : {m : ℕ} → (called begin s).answer ≡ Ok m → Follows (record { state = (called begin s).state; history = fresh kind n key nonce announced })
  begin_follows a = let v = begin_view a in record { state = ap (λ (t : Step). t.state) v.0 ∙ ap layout.written v.1.same; kept = v.1.kept }

  pub begin-answers : (m : ℕ) → (called begin s).answer ≡ Ok m → m ≡ length (clocks_of (fresh kind n key nonce announced))
  begin-answers m a = let v = begin_view a in counted a (ap (λ (t : Step). t.answer) v.0) v.1
