-- Any cutting beside the calls on whole strings.
-- Assumes nothing.
use mathlib.Core.Path.{◌≡◌, refl, sym, ap, ap₂, ◌∙◌, subst}
use mathlib.Core.Logic.{◌≢◌, inl, inr}
use mathlib.Core.Bool.{Bool, true, false, cond, not}
use mathlib.Core.List.{List, [], ◌++◌}
use Prim.Native.Nat.{ℕ, ◌+◌, ◌≤◌}
use native.Mathlib.Omega.{arith}
use borrow.Author.Tests.{eq-eqb, ne_eqb}
use lib.Dec.{eqb}
use lib.ListN.{length, length-append}
use Rattle.bits.specs.Bit.{digit}
use Rattle.bits.specs.Bytes.{same}
use Rattle.bits.proofs.Packing.{equal_same}
use Rattle.refusals.specs.declared.Refusal.{Refusal}
use Rattle.refusals.specs.declared.Refusal.TheVariants.{TagDiffers, UnsoundState}
use Rattle.refusals.specs.Refusals.{Check, after, passed}
use Rattle.std.specs.Prelude.{Ok, Err}
use Rattle.refusals.specs.Outcome.{Outcome, success, refused}
use Rattle.refusals.proofs.Demand1.{count-not-refused}
use Rattle.tagged.proofs.Parts.{ciphertext_part-joined, tag_part-joined}
use Rattle.payload.specs.Sizes.{tag_size}
use Rattle.payload.specs.Payload.{deciphered, tag, payload, ciphertext_part}
use Rattle.payload.proofs.Payload.{length_tag_lem}
use Rattle.limits.specs.Limits.{message_limit}
use Rattle.grain128aead.specs.Calls.{sealed, opened}
use Rattle.grain128aead.specs.Demand2 as whole
use Rattle.grain128aead.proofs.Demand2.{sealing, legal-in_order, opening-tag}
use Rattle.stream_checks.specs.declared.counts.Kind.{Kind}
use Rattle.stream_checks.specs.declared.counts.Kind.TheVariants.{Sealing, Checking}
use Rattle.stream_checks.specs.Counts.{number, out_of_turn}
use Rattle.stream_checks.specs.Rows.{state_size}
use Rattle.stream_checks.proofs.Turns.{in_turn-text}
use Rattle.stream_state.specs.Stream.{Stream}
use Rattle.stream_state.specs.Layout.{sound}
use Rattle.streams.specs.Going.{is_sealing, finished}
use Rattle.streams.specs.Calls.{Begin, Ad, Message, Ciphertext, FinishSealing, FinishChecking, Step, step, settled, called}
use Rattle.streams.specs.History.{History, Play, played, message, reached}
use Rattle.streams.specs.Cutting.{handed_out, Verdict, Cut, AnyCutting, OtherLength}
use Rattle.streams.proofs.Reached.{clocked, tag-reached, taken-whole, taken_begins}
use Rattle.streams.proofs.Settled.{judgement, clear_passed, called_unsound, on_stream_lem, begin_judgement, begins, begin_failed}
use Rattle.streams.proofs.Taking.{takes}
use Rattle.streams.proofs.Cutting.{Kept, Follows, next-goes, stays, answers, follows, begin_follows, begin-answers}

module _ (h : History) (k : Kept h) (full : length h.ad ≡ h.announced) where
  -- What is legal for a stream is legal for the whole.
  legal-whole : whole.Legal h.key h.nonce h.ad h.text
  legal-whole = record {
    key_sized = k.legal.key_sized;
    nonce_sized = k.legal.nonce_sized;
    key_not_blank = k.legal.key_not_blank;
    ad_fits = omega (arith, k.legal.announced_fits, k.legal.ad_fits);
    message_fits = k.legal.text_fits;
  }

  sealed_whole_lem : h.kind ≡ Sealing → h.ended ≡ true → (out : List ℕ) → length h.text + tag_size ≤ length out
      → sealed h.edition h.key h.nonce h.ad h.text out ≡ success (h.output ++ h.tag) out
  unfolding payload
  sealed_whole_lem kind ended out room =
      (sealing h.edition h.key h.nonce h.ad h.text out).seals legal-whole room
      ∙ ap₂ (λ (c t : List ℕ). success (c ++ t) out) (sym (k.output ∙ ap (λ (q : Kind). handed_out q h) kind))
      (sym (k.tagged ended ∙ ap (λ (q : Kind). tag h.edition h.key h.nonce h.ad (cond (is_sealing q) h.text (deciphered h.edition h.key h.nonce h.ad h.text))) kind))

  -- Opening the text and a tag goes by whether the tag is that of the message.
  opened_by : h.kind ≡ Checking → (given out : List ℕ) → length given ≡ tag_size → length h.text ≤ length out
      → opened h.edition h.key h.nonce h.ad (h.text ++ given) out
      ≡ cond (not (same given (tag h.edition h.key h.nonce h.ad (message h)))) (refused TagDiffers out) (success (message h) out)
  opened_by kind given out eight room =
      opening-tag h.edition h.key h.nonce h.ad (h.text ++ given) out
      (legal-in_order h.edition h.key h.nonce h.ad (h.text ++ given) out h.text legal-whole (length-append h.text given ∙ ap (λ (n : ℕ). length h.text + n) eight) room)
      ∙ ap₂ (λ (t m : List ℕ). cond (not (same t (tag h.edition h.key h.nonce h.ad m))) (refused TagDiffers out) (success m out)) (tag_part-joined tag_size h.text given eight) hidden
    where
      hidden : deciphered h.edition h.key h.nonce h.ad (ciphertext_part (h.text ++ given)) ≡ message h
      hidden =
          ap (deciphered h.edition h.key h.nonce h.ad) (ciphertext_part-joined tag_size h.text given eight)
          ∙ sym (ap (λ (q : Kind). cond (is_sealing q) h.text (deciphered h.edition h.key h.nonce h.ad h.text)) kind)

  opened_whole_lem : h.kind ≡ Checking → h.ended ≡ true → (out : List ℕ) → length h.text ≤ length out
      → opened h.edition h.key h.nonce h.ad (h.text ++ h.tag) out ≡ success (message h) out
  opened_whole_lem kind ended out room =
      let right = k.tagged ended in
      let t = tag h.edition h.key h.nonce h.ad (message h) in
      opened_by kind h.tag out (ap length right ∙ length_tag_lem h.edition h.key h.nonce h.ad (message h)) room
      ∙ ap (λ (b : Bool). cond (not b) (refused TagDiffers out) (success (message h) out)) (ap (λ (s : List ℕ). same s t) right ∙ equal_same t)

-- ---- the end of a checking stream

settled-verdict : (b : Bool) (x : Stream) (s m out : List ℕ) → Verdict (settled (after passed TagDiffers b) x [] s []) (cond b (refused TagDiffers out) (success m out))
unfolding settled
settled-verdict true x s m out = record {
  accepts = (λ a. absurd (count-not-refused a.1 refl), λ a. absurd (count-not-refused a.1 refl));
  refuses = (λ e. refl, λ e. refl);
  one_of_both = inr refl;
}
settled-verdict false x s m out = record {
  accepts = (λ a. (_, refl), λ a. (_, refl));
  refuses = (λ e. absurd (count-not-refused refl e), λ e. absurd (count-not-refused refl e));
  one_of_both = inl (_, refl);
}

module _ (p : Play) (f : Follows p) where
  h : History
  h = p.history

  goes_as_opening : h.kind ≡ Checking → h.ended ≡ false → length h.ad ≡ h.announced → (given out : List ℕ) → length given ≡ tag_size → length h.text ≤ length out
      → Verdict (called (FinishChecking given) p.state) (opened h.edition h.key h.nonce h.ad (h.text ++ given) out)
  unfolding h
  goes_as_opening kind unended full given out eight room =
      subst (λ (o : Outcome). Verdict (called (FinishChecking given) p.state) o) (sym (opened_by h f.kept full kind given out eight room))
      (subst (λ (t : Step). Verdict t (cond differs (refused TagDiffers out) (success (message h) out)))
      (sym (next-goes p f (FinishChecking given) ∙ on_stream_lem (FinishChecking given) tt (reached h) p.state passed differs clear (ap (λ (t : List ℕ). not (same given t)) (tag-reached h unended full))))
      (settled-verdict differs (finished (reached h)) p.state (message h) out))
    where
      differs : Bool
      differs = not (same given (tag h.edition h.key h.nonce h.ad (message h)))

      turn : out_of_turn Checking (reached h).counts ≡ false
      turn = unfold reached in (in_turn-text Checking (reached h).counts (record { kinds = ap number kind; unended = ap digit unended }) full)

      clear : judgement (out_of_turn Checking (reached h).counts) false (not (eqb (length given) tag_size)) false ≡ passed
      clear = clear_passed _ _ _ _ (record { in_turn = turn; fits = refl; sized = ap not (eq-eqb (length given) tag_size eight); room = refl })

  pub cut : Cut p
  unfolding h
  cut = record {
    state = f.state;
    next = next-goes p f;
    takes = takes p f;
    legal = f.kept.legal;
    clocked = clocked p.history f.kept.legal;
    authenticated = record {
      all = λ ended. taken-whole p.history ended (f.kept.legal.ended_behind_ad ended);
      front = λ unended ad text full. taken_begins p.history unended ad text full;
    };
    answers = answers p f;
    refused = stays p f;
    output = f.kept.output;
    sealed_whole = λ kind ended. sealed_whole_lem p.history f.kept (f.kept.legal.ended_behind_ad ended) kind ended;
    opened_whole = λ kind ended. opened_whole_lem p.history f.kept (f.kept.legal.ended_behind_ad ended) kind ended;
    verdict = goes_as_opening;
  }

pub any_cutting : AnyCutting
any_cutting kind n key nonce announced s m a =
    let f = begin_follows kind n key nonce announced s a in
    (begin-answers kind n key nonce announced s m a, λ calls. cut (played _ calls) (follows _ f calls))

not-sized : (s : List ℕ) → length s ≢ state_size → sound message_limit s ≡ false
unfolding sound
not-sized s other = rw (ne_eqb (length s) state_size other) refl

pub other_length : OtherLength
other_length (Begin kind n key nonce announced) s other = go (begin_judgement kind n key nonce announced s) refl
  where
    go : (d : Check) → begin_judgement kind n key nonce announced s ≡ d → (r : Refusal) × (called (Begin kind n key nonce announced) s ≡ step (Err r) s [])
    go (Ok u) j = absurd (other (begins kind n key nonce announced s j).sized)
    go (Err r) j = (r, sym (begin_failed kind n key nonce announced s j))
other_length (Ad kind piece) s other = (UnsoundState, sym (called_unsound (Ad kind piece) tt s (not-sized s other)))
other_length (Message piece out) s other = (UnsoundState, sym (called_unsound (Message piece out) tt s (not-sized s other)))
other_length (Ciphertext piece) s other = (UnsoundState, sym (called_unsound (Ciphertext piece) tt s (not-sized s other)))
other_length (FinishSealing out) s other = (UnsoundState, sym (called_unsound (FinishSealing out) tt s (not-sized s other)))
other_length (FinishChecking given) s other = (UnsoundState, sym (called_unsound (FinishChecking given) tt s (not-sized s other)))
