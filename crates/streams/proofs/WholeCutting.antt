-- A whole AD and a whole text, cut anyhow.
-- Assumes nothing.
use mathlib.Core.Path.{◌≡◌, refl, sym, ap, ◌∙◌, subst}
use mathlib.Core.Bool.{false}
use mathlib.Core.List.{List, [], ◌∷◌, ◌++◌, map, append-nil, append_assoc, foldl-append}
use Prim.Native.Nat.{ℕ, ◌+◌, ◌≤◌}
use native.Mathlib.Omega.{arith}
use lib.ListN.{length, length-append}
use Rattle.refusals.specs.Refusals.{Answer}
use Rattle.refusals.specs.Outcome.{success}
use Rattle.startup.specs.Naming.{known}
use Rattle.payload.specs.Sizes.{tag_size}
use Rattle.limits.specs.Limits.{message_limit}
use Rattle.grain128aead.specs.Calls.{sealed, opened}
use Rattle.stream_checks.specs.declared.counts.Kind.{Kind}
use Rattle.stream_checks.specs.declared.counts.Kind.TheVariants.{Sealing, Checking}
use Rattle.streams.specs.Calls.{Call, Begin, Ad, FinishSealing, FinishChecking, Step, called}
use Rattle.streams.specs.History.{History, Play, fresh, with, accepting, noting, play, played}
use Rattle.streams.specs.Cutting.{Taking, Verdict}
use Rattle.streams.specs.WholeCutting.{joined, Piece, text_call, Roomy, script, text_of, begun_at, Finishes, WholeCutting}
use Rattle.streams.proofs.Settled.{begins_passed, begin_passed}
use Rattle.streams.proofs.Cutting.{Follows, follows_on, follows, begin_follows}
use Rattle.streams.proofs.Taking.{takes}
use Rattle.streams.proofs.Whole.{cut}

-- A call that is to be taken is noted.
noted : (p : Play) (f : Follows p) (c : Call) → Taking c (length p.state) p.history → (play p c).history ≡ accepting c (called c p.state).output p.history
noted p f c t = let a = (takes p f c).1 t in ap (λ (b : Answer). noting b c (called c p.state).output p.history) a.1

-- A history but for its output.
record Same (h : History) (ad text : List ℕ) (g : History) : Type 0 where
  pub same : g ≡ with h ad text g.output h.ended h.tag

same_again : {h g : History} {ad text ad' text' : List ℕ} {f : History} → Same h ad text g → Same g ad' text' f → Same h ad' text' f
same_again {ad' = ad'} {text' = text'} {f = f} s t = record { same = t.same ∙ ap (λ (g : History). with g ad' text' f.output g.ended g.tag) s.same }

-- All pieces of AD.
ads_taken : (kind : Kind) (ads : List (List ℕ)) (p : Play) → Follows p → p.history.kind ≡ kind → p.history.ended ≡ false
    → length p.history.ad + length (joined ads) ≤ p.history.announced → Same p.history (p.history.ad ++ joined ads) p.history.text (played p (map (Ad kind) ads)).history
unfolding played joined
ads_taken kind [] p f k u fits = record { same = ap (λ (s : List ℕ). with p.history s p.history.text p.history.output p.history.ended p.history.tag) (sym (append-nil p.history.ad)) }
ads_taken kind (s ∷ ads) p f k u fits =
    let long = length-append s (joined ads) in
    let here = noted p f (Ad kind s) (k, u, omega (arith, long, fits)) in
    let one : Same p.history (p.history.ad ++ s) p.history.text (play p (Ad kind s)).history = record { same = here ∙ ap (λ (o : List ℕ). with p.history (p.history.ad ++ s) p.history.text o p.history.ended p.history.tag) (sym (ap (λ (g : History). g.output) here)) } in
    let rest = ads_taken kind ads (play p (Ad kind s)) (follows_on p f (Ad kind s)) (ap (λ (g : History). g.kind) here ∙ k) (ap (λ (g : History). g.ended) here ∙ u)
    (subst (λ (g : History). length g.ad + length (joined ads) ≤ g.announced) (sym here) (omega (arith, long, fits, length-append p.history.ad s))) in
    subst (λ (l : List ℕ). Same p.history l p.history.text (played (play p (Ad kind s)) (map (Ad kind) ads)).history) (ap (λ (g : History). g.ad ++ joined ads) here ∙ append_assoc p.history.ad s (joined ads))
    (subst (λ (t : List ℕ). Same p.history ((play p (Ad kind s)).history.ad ++ joined ads) t (played (play p (Ad kind s)) (map (Ad kind) ads)).history) (ap (λ (g : History). g.text) here) (same_again one rest))

-- All pieces of text.
text_taking : (kind : Kind) (m : Piece) (ms : List Piece) (h : History) (size : ℕ) → h.kind ≡ kind → h.ended ≡ false → length h.ad ≡ h.announced → length h.text + length m.bytes ≤ message_limit
    → Roomy kind (m ∷ ms) → Taking (text_call kind m) size h × Roomy kind ms
text_taking Sealing m ms h size k u full fits room = ((k, u, full, fits, room.0), room.1)
text_taking Checking m ms h size k u full fits room = ((k, u, full, fits), tt)

text-adds : (kind : Kind) (m : Piece) (out : List ℕ) (h : History) → Same h h.ad (h.text ++ m.bytes) (accepting (text_call kind m) out h)
text-adds Sealing m out h = record { same = refl }
text-adds Checking m out h = record { same = refl }

texts_taken : (kind : Kind) (ms : List Piece) (p : Play) → Follows p → p.history.kind ≡ kind → p.history.ended ≡ false → length p.history.ad ≡ p.history.announced
    → length p.history.text + length (text_of ms) ≤ message_limit → Roomy kind ms → Same p.history p.history.ad (p.history.text ++ text_of ms) (played p (map (text_call kind) ms)).history
unfolding played joined
texts_taken kind [] p f k u full fits room = record { same = ap (λ (s : List ℕ). with p.history p.history.ad s p.history.output p.history.ended p.history.tag) (sym (append-nil p.history.text)) }
texts_taken kind (m ∷ ms) p f k u full fits room =
    let long = length-append m.bytes (text_of ms) in
    let t = text_taking kind m ms p.history (length p.state) k u full (omega (arith, long, fits)) room in
    let c = text_call kind m in
    let one = subst (Same p.history p.history.ad (p.history.text ++ m.bytes)) (sym (noted p f c t.0)) (text-adds kind m (called c p.state).output p.history) in
    let here = one.same in
    let rest = texts_taken kind ms (play p c) (follows_on p f c) (ap (λ (g : History). g.kind) here ∙ k) (ap (λ (g : History). g.ended) here ∙ u)
    (ap (λ (g : History). length g.ad) here ∙ full ∙ sym (ap (λ (g : History). g.announced) here))
    (subst (λ (l : List ℕ). length l + length (text_of ms) ≤ message_limit) (sym (ap (λ (g : History). g.text) here)) (omega (arith, long, fits, length-append p.history.text m.bytes))) t.1 in
    subst (λ (l : List ℕ). Same p.history p.history.ad l (played (play p c) (map (text_call kind) ms)).history) (ap (λ (g : History). g.text ++ text_of ms) here ∙ append_assoc p.history.text m.bytes (text_of ms))
    (subst (λ (l : List ℕ). Same p.history l ((play p c).history.text ++ text_of ms) (played (play p c) (map (text_call kind) ms)).history) (ap (λ (g : History). g.ad) here) (same_again one rest))

-- The history after all pieces, and finish after it.
module _ (kind : Kind) (n : ℕ) (key nonce ad text : List ℕ) (p : Play) (f : Follows p)
    (s : Same (fresh kind n key nonce (length ad)) ad text p.history) where
  finishes : Finishes kind n key nonce ad text p
  finishes = record {
    seals = λ sealing lent out tag_room room.
        let t : Taking (FinishSealing lent) (length p.state) p.history = (ap (λ (g : History). g.kind) s.same ∙ sealing, ap (λ (g : History). g.ended) s.same, full, tag_room) in
        let c = FinishSealing lent in
        let q = play p c in
        let here = noted p f c t in
        let from_fresh = here ∙ ap (accepting c (called c p.state).output) s.same in (
          (takes p f c).1 t,
          subst (λ (g : History). sealed g.edition g.key g.nonce g.ad g.text out ≡ success (q.history.output ++ q.history.tag) out) from_fresh
              ((cut q (follows_on p f c)).sealed_whole (ap (λ (g : History). g.kind) from_fresh ∙ sealing) (ap (λ (g : History). g.ended) from_fresh) out
              (subst (λ (l : List ℕ). length l + tag_size ≤ length out) (sym (ap (λ (g : History). g.text) from_fresh)) room)),
        );
    checks = λ checking tag out eight room.
        subst (λ (g : History). Verdict (called (FinishChecking tag) p.state) (opened g.edition g.key g.nonce g.ad (g.text ++ tag) out)) s.same
        ((cut p f).verdict (ap (λ (g : History). g.kind) s.same ∙ checking) (ap (λ (g : History). g.ended) s.same) full tag out eight
        (subst (λ (l : List ℕ). length l ≤ length out) (sym (ap (λ (g : History). g.text) s.same)) room));
  }
    where
      full : length p.history.ad ≡ p.history.announced
      full = ap (λ (g : History). length g.ad) s.same ∙ sym (ap (λ (g : History). g.announced) s.same)

pub whole_cutting : WholeCutting
unfolding played
whole_cutting kind n key nonce ads ms state known legal room size =
    let begin = Begin kind n key nonce (length (joined ads)) in
    let passed = begins_passed kind n key nonce (length (joined ads)) state (record {
      edition = known;
      key_sized = legal.key_sized;
      nonce_sized = legal.nonce_sized;
      key_not_blank = legal.key_not_blank;
      ad_fits = legal.ad_fits;
      sized = size;
    }) in
    let began = sym (ap (λ (t : Step). t.answer) (begin_passed kind n key nonce (length (joined ads)) state passed)) in
    let p = begun_at kind n key nonce (length (joined ads)) state in
    let f = begin_follows kind n key nonce (length (joined ads)) state began in
    let q = played p (map (Ad kind) ads) in
    let a = ads_taken kind ads p f refl refl (omega arith) in
    let here = a.same in
    let g = follows p f (map (Ad kind) ads) in
    let t = texts_taken kind ms q g (ap (λ (h : History). h.kind) here) (ap (λ (h : History). h.ended) here)
    (ap (λ (h : History). length h.ad) here ∙ sym (ap (λ (h : History). h.announced) here))
    (subst (λ (l : List ℕ). length l + length (text_of ms) ≤ message_limit) (sym (ap (λ (h : History). h.text) here)) (omega (arith, legal.message_fits))) room in
    let r = played q (map (text_call kind) ms) in
    let joined_play : r ≡ played p (script kind ads ms) = sym (foldl-append play p (map (Ad kind) ads) (map (text_call kind) ms)) in (
      (_, began),
      subst (Finishes kind n key nonce (joined ads) (text_of ms)) joined_play
          (finishes kind n key nonce (joined ads) (text_of ms) r (follows q g (map (text_call kind) ms))
          (subst (λ (l : List ℕ). Same p.history (joined ads) l r.history) (ap (λ (h : History). h.text ++ text_of ms) here)
          (subst (λ (l : List ℕ). Same p.history l (q.history.text ++ text_of ms) r.history) (ap (λ (h : History). h.ad) here) (same_again a t)))),
    )
