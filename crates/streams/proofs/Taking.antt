-- Which calls are accepted, by the history alone.
-- Assumes nothing.
use mathlib.Core.Path.{◌≡◌, refl, sym, ap, ◌∙◌}
use mathlib.Core.Logic.{◌↔◌}
use mathlib.Core.Bool.{Bool, true, false, not}
use mathlib.Core.List.{List}
use Prim.Native.Nat.{ℕ, ◌+◌}
use borrow.Author.Tests.{eqb-true, eq-eqb, ltb-false, le-ltb, not-false}
use lib.ListN.{length}
use Rattle.bits.specs.Bit.{digit}
use Rattle.bits.specs.Bytes.{same}
use Rattle.bits.proofs.Packing.{same_equal, equal_same}
use Rattle.refusals.specs.declared.Refusal.TheVariants.{TagDiffers}
use Rattle.refusals.specs.Refusals.{Check, after, passed}
use Rattle.std.specs.Prelude.{Ok, Err}
use Rattle.refusals.proofs.Demand1.{count-not-refused}
use Rattle.payload.specs.Sizes.{tag_size}
use Rattle.limits.specs.Limits.{message_limit}
use Rattle.stream_checks.specs.declared.counts.Kind.{Kind}
use Rattle.stream_checks.specs.declared.counts.Kind.TheVariants.{Sealing, Checking}
use Rattle.stream_checks.specs.Counts.{number, out_of_turn}
use Rattle.stream_checks.proofs.Turns.{Its, in_turn-ad, in_turn-text}
use Rattle.streams.specs.Calls.{Call, Begin, Ad, Message, Ciphertext, FinishSealing, FinishChecking, next, produced, lent, Step, settled, called}
use Rattle.streams.specs.Demand1.{Accepts}
use Rattle.streams.specs.History.{History, Play, reached}
use Rattle.streams.specs.Cutting.{Taking}
use Rattle.streams.proofs.Reached.{tag-reached}
use Rattle.streams.proofs.Settled.{passed_clear, clear_passed, judgement_of, wrong_tag, GoesOn, on_stream_lem, begin_judgement, Begins, begins, begins_passed, called-begin}
use Rattle.streams.proofs.Cutting.{turn_of, ad_turn_of, Follows, next-goes}

module _ (h : History) where
  its : (kind : Kind) → h.kind ≡ kind → h.ended ≡ false → Its kind (reached h).counts
  unfolding reached
  its kind k u = record { kinds = ap number k; unended = ap digit u }

  turn_on : (kind : Kind) → h.kind ≡ kind → h.ended ≡ false → length h.ad ≡ h.announced → out_of_turn kind (reached h).counts ≡ false
  unfolding reached
  turn_on kind k u full = in_turn-text kind (reached h).counts (its kind k u) full

  -- The rows of a call pass, and its tag is right, exactly when the call is to be taken.
  pub rows_take : (c : Call) (size : ℕ) → GoesOn c → ((judgement_of c (reached h).counts ≡ passed) × (wrong_tag c (reached h) ≡ false)) ↔ Taking c size h
  unfolding reached
  rows_take (Begin kind n key nonce announced) size on = absurd on
  rows_take (Ad kind piece) size on = (
    λ v. ad_turn_of h kind (length piece) (passed_clear _ _ _ _ v.0).in_turn,
    λ t. (clear_passed _ _ _ _ (record { in_turn = in_turn-ad kind (reached h).counts (its kind t.0 t.1) (length piece) t.2; fits = refl; sized = refl; room = refl }), refl),
  )
  rows_take (Message piece out) size on = (
    λ v.
        let clear = passed_clear _ _ _ _ v.0 in
        let i = turn_of h Sealing clear.in_turn in
        (i.kinds, i.unended, i.full, ltb-false message_limit (length h.text + length piece) clear.fits, ltb-false (length out) (length piece) clear.room),
    λ t. (clear_passed _ _ _ _ (record { in_turn = turn_on Sealing t.0 t.1 t.2; fits = le-ltb message_limit (length h.text + length piece) t.3; sized = refl; room = le-ltb (length out) (length piece) t.4 }), refl),
  )
  rows_take (Ciphertext piece) size on = (
    λ v.
        let clear = passed_clear _ _ _ _ v.0 in
        let i = turn_of h Checking clear.in_turn in
        (i.kinds, i.unended, i.full, ltb-false message_limit (length h.text + length piece) clear.fits),
    λ t. (clear_passed _ _ _ _ (record { in_turn = turn_on Checking t.0 t.1 t.2; fits = le-ltb message_limit (length h.text + length piece) t.3; sized = refl; room = refl }), refl),
  )
  rows_take (FinishSealing out) size on = (
    λ v.
        let clear = passed_clear _ _ _ _ v.0 in
        let i = turn_of h Sealing clear.in_turn in
        (i.kinds, i.unended, i.full, ltb-false (length out) tag_size clear.room),
    λ t. (clear_passed _ _ _ _ (record { in_turn = turn_on Sealing t.0 t.1 t.2; fits = refl; sized = refl; room = le-ltb (length out) tag_size t.3 }), refl),
  )
  rows_take (FinishChecking given) size on = (
    λ v.
        let clear = passed_clear _ _ _ _ v.0 in
        let i = turn_of h Checking clear.in_turn in
        (i.kinds, i.unended, i.full, eqb-true (length given) tag_size (not-false _ clear.sized), same_equal given _ (not-false _ v.1) ∙ tag-reached h i.unended i.full),
    λ t. (
      clear_passed _ _ _ _ (record { in_turn = turn_on Checking t.0 t.1 t.2; fits = refl; sized = ap not (eq-eqb (length given) tag_size t.3); room = refl }),
      ap not (ap (same given) (tag-reached h t.1 t.2 ∙ sym t.4) ∙ equal_same given),
    ),
  )

module _ (p : Play) (f : Follows p) where
  accepts_going : (c : Call) → GoesOn c → Accepts (called c p.state) ↔ ((judgement_of c (reached p.history).counts ≡ passed) × (wrong_tag c (reached p.history) ≡ false))
  unfolding settled
  accepts_going c on = go (judgement_of c (reached p.history).counts) (wrong_tag c (reached p.history)) refl refl
    where
      answer : (d : Check) (b : Bool) → judgement_of c (reached p.history).counts ≡ d → wrong_tag c (reached p.history) ≡ b → (called c p.state).answer ≡ (settled (after d TagDiffers b) (next c (reached p.history)) (produced c (reached p.history)) p.state (lent c)).answer
      answer d b j w = ap (λ (t : Step). t.answer) (next-goes p f c ∙ on_stream_lem c on (reached p.history) p.state d b j w)

      go : (d : Check) (b : Bool) → judgement_of c (reached p.history).counts ≡ d → wrong_tag c (reached p.history) ≡ b
          → Accepts (called c p.state) ↔ ((judgement_of c (reached p.history).counts ≡ passed) × (wrong_tag c (reached p.history) ≡ false))
      go (Ok u) false j w = (λ a. (j, w), λ v. (_, answer passed false j w))
      go (Ok u) true j w = (λ a. absurd (count-not-refused a.1 (answer passed true j w)), λ v. (_, answer passed false v.0 v.1))
      go (Err r) b j w = (λ a. absurd (count-not-refused a.1 (answer (Err r) b j w)), λ v. (_, answer passed false v.0 v.1))

  accepts-begin : (kind : Kind) (n : ℕ) (key nonce : List ℕ) (announced : ℕ) → Accepts (called (Begin kind n key nonce announced) p.state) ↔ Begins n key nonce announced (length p.state)
  unfolding settled
  accepts-begin kind n key nonce announced = go (begin_judgement kind n key nonce announced p.state) refl
    where
      begins_if : begin_judgement kind n key nonce announced p.state ≡ passed → Accepts (called (Begin kind n key nonce announced) p.state)
      begins_if j = (_, ap (λ (t : Step). t.answer) (called-begin kind n key nonce announced p.state passed j))

      go : (d : Check) → begin_judgement kind n key nonce announced p.state ≡ d → Accepts (called (Begin kind n key nonce announced) p.state) ↔ Begins n key nonce announced (length p.state)
      go (Ok u) j = (λ a. begins kind n key nonce announced p.state j, λ b. begins_if j)
      go (Err r) j = (
        λ a. absurd (count-not-refused a.1 (ap (λ (t : Step). t.answer) (called-begin kind n key nonce announced p.state (Err r) j))),
        λ b. begins_if (begins_passed kind n key nonce announced p.state b),
      )

  joined : (c : Call) → GoesOn c → Accepts (called c p.state) ↔ Taking c (length p.state) p.history
  joined c on = let v = accepts_going c on in let w = rows_take p.history c (length p.state) on in (λ a. w.0 (v.0 a), λ t. v.1 (w.1 t))

  pub takes : (c : Call) → Accepts (called c p.state) ↔ Taking c (length p.state) p.history
  takes (Begin kind n key nonce announced) =
      let v = accepts-begin kind n key nonce announced in (
        λ a. let b = v.0 a in (b.edition, b.key_sized, b.nonce_sized, b.key_not_blank, b.ad_fits, b.sized),
        λ t. v.1 (record { edition = t.0; key_sized = t.1; nonce_sized = t.2; key_not_blank = t.3; ad_fits = t.4; sized = t.5 }),
      )
  takes (Ad kind piece) = joined (Ad kind piece) tt
  takes (Message piece out) = joined (Message piece out) tt
  takes (Ciphertext piece) = joined (Ciphertext piece) tt
  takes (FinishSealing out) = joined (FinishSealing out) tt
  takes (FinishChecking given) = joined (FinishChecking given) tt
