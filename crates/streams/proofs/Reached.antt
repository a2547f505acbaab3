-- The published machine of a history, as each call has it go on.
-- Assumes nothing.
use mathlib.Core.Path.{◌≡◌, refl, sym, ap, ap₂, ◌∙◌}
use mathlib.Core.Logic.{◌⊎◌, inl, inr}
use mathlib.Core.Bool.{Bool, true, false, cond}
use mathlib.Core.List.{List, [], ◌∷◌, ◌++◌, append-nil, append_assoc}
use Prim.Native.Nat.{ℕ, ◌+◌, ◌*◌, ◌≤◌}
use native.Mathlib.Nat.{add-zero}
use native.Mathlib.Omega.{arith}
use lib.Dec.{lit≤}
use lib.ListN.{length, replicate, length-append, length-replicate}
use Rattle.bits.specs.Bit.{digit}
use Rattle.bits.specs.Bytes.{bits, bytes}
use Rattle.bits.specs.Times.{in_turn}
use Rattle.bits.proofs.Times.{in_turn-append, in_turn-replicate}
use Rattle.generators.specs.Generator.{plain}
use Rattle.preoutput.specs.Functions.{grain128}
use Rattle.machine.specs.declared.edition.Edition.{Edition}
use Rattle.machine.specs.Machine.{State, run, encipher}
use Rattle.machine.proofs.Machine.{run-append, run-edition}
use Rattle.machine.proofs.Clocks.{run-clocked}
use Rattle.startup.specs.StartUp.{loaded}
use Rattle.startup.specs.Editions.{bits_in, bytes_in, running_from, started, initialised}
use Rattle.startup.specs.Laws.{start_up_clocks}
use Rattle.startup.proofs.Clocks as start_up
use Rattle.startup.proofs.Order.{bits_in-append, length-bits_in, ordered-none}
use Rattle.strings.proofs.OverBytes.{crypt_bytes, crypt_bytes-append, through-append}
use Rattle.strings.proofs.OverBytes as strings
use Rattle.lengths.specs.CodedLength.{coded_length}
use Rattle.payload.specs.Sizes.{tag_size}
use Rattle.payload.specs.Job.{string_bits, job_clocks}
use Rattle.payload.specs.AuthenticatedString.{header, authenticated}
use Rattle.payload.specs.Payload.{begun, ciphertext, deciphered, tag}
use Rattle.payload.proofs.Job.{job_grows}
use Rattle.payload.proofs.Payload.{deciphered-bits, length_deciphered_lem}
use Rattle.limits.specs.Limits.{message_limit}
use Rattle.grain128aead.specs.Sizes.{ad_limit}
use Rattle.grain128aead.proofs.Entry.{tag-run}
use Rattle.stream_checks.specs.declared.counts.Kind.{Kind}
use Rattle.stream_checks.specs.declared.counts.Kind.TheVariants.{Sealing, Checking}
use Rattle.stream_state.specs.Stream.{bits_taken, clocks_so_far}
use Rattle.streams.specs.Going as going_on
use Rattle.streams.specs.Going.{is_sealing, through, with_ad, with_text, cipher, finished, tag_of}
use Rattle.streams.specs.History.{History, with, message, taken, reached, clocks_of}
use Rattle.streams.specs.Cutting.{Legal, Clocked}

no_bits : (e : Edition) → bits_in e [] ≡ []
unfolding bits_in bits
no_bits e = ap bits (ordered-none e)

-- ---- at the history's own names
module _ (h : History) where
  abbrev e : Edition
  e = h.edition

  abbrev start : State
  start = initialised e h.key h.nonce

  -- The machine over what stands before the message.
  abbrev opening : State
  opening = run start (bits_in e (coded_length h.announced) ++ bits_in e h.ad)

  pub edition-reached : (reached h).machine.edition ≡ e
  unfolding reached initialised started
  edition-reached = run-edition start (taken h)

  -- With all of the AD it is the machine where the message begins.
  pub opening-begun : length h.ad ≡ h.announced → opening ≡ begun e h.key h.nonce h.ad
  unfolding begun header
  opening-begun full = ap (λ (n : ℕ). run start (bits_in e (coded_length n) ++ bits_in e h.ad)) (sym full)

  machine-taken : (reached h).machine ≡ run (run opening (bits_in e (message h))) (cond h.ended (true ∷ []) [])
  unfolding reached taken
  machine-taken =
      run-append start _ (bits_in e (message h) ++ cond h.ended (true ∷ []) []) ∙ run-append opening (bits_in e (message h)) (cond h.ended (true ∷ []) [])

  -- Before finish.
  pub machine_open : h.ended ≡ false → (reached h).machine ≡ run opening (bits_in e (message h))
  unfolding run
  machine_open unended = machine-taken ∙ ap (λ (b : Bool). run (run opening (bits_in e (message h))) (cond b (true ∷ []) [])) unended

  -- With no message yet.
  pub machine-ad : h.ended ≡ false → h.text ≡ [] → (reached h).machine ≡ opening
  unfolding run
  machine-ad unended none = machine_open unended ∙ ap (run opening) (ap (bits_in e) (no_message h.kind none) ∙ no_bits e)
    where
      no_message : (k : Kind) → h.text ≡ [] → cond (is_sealing k) h.text (deciphered e h.key h.nonce h.ad h.text) ≡ []
      no_message Sealing n = n
      no_message Checking n = unfold deciphered bytes_in bytes in (ap (deciphered e h.key h.nonce h.ad) n ∙ ordered-none e)

  -- With all of the AD: the machine has gone through the text from where the message begins.
  pub machine-text : h.ended ≡ false → length h.ad ≡ h.announced → (reached h).machine ≡ strings.through (is_sealing h.kind) (begun e h.key h.nonce h.ad) (bits_in e h.text)
  machine-text unended full = machine_open unended ∙ ap (λ (st : State). run st (bits_in e (message h))) (opening-begun full) ∙ by_kind h.kind
    where
      by_kind : (k : Kind) → run (begun e h.key h.nonce h.ad) (bits_in e (cond (is_sealing k) h.text (deciphered e h.key h.nonce h.ad h.text)))
          ≡ strings.through (is_sealing k) (begun e h.key h.nonce h.ad) (bits_in e h.text)
      by_kind Sealing = unfold strings.through in refl
      by_kind Checking = unfold strings.through in (ap (run (begun e h.key h.nonce h.ad)) (deciphered-bits e h.key h.nonce h.ad h.text))

  length-message : length (message h) ≡ length h.text
  length-message = by_kind h.kind
    where
      by_kind : (k : Kind) → length (cond (is_sealing k) h.text (deciphered e h.key h.nonce h.ad h.text)) ≡ length h.text
      by_kind Sealing = refl
      by_kind Checking = length_deciphered_lem e h.key h.nonce h.ad h.text

  -- ---- the clocks

  length_taken : length (taken h) ≡ bits_taken (reached h).counts
  unfolding taken reached bits_taken
  length_taken =
      let coded = bits_in e (coded_length h.announced) in
      let front = coded ++ bits_in e h.ad in
      let back = bits_in e (message h) ++ cond h.ended (true ∷ []) [] in
      omega (arith, length-append front back, length-append coded (bits_in e h.ad), length-append (bits_in e (message h)) (cond h.ended (true ∷ []) []), length-bits_in e (coded_length h.announced), length-bits_in e h.ad, length-bits_in e (message h), length-message, final h.ended)
    where
      final : (b : Bool) → length (cond b (true ∷ []) []) ≡ digit b
      final true = refl
      final false = refl

  whole : h.ended ≡ true → length h.ad ≡ h.announced → bits_taken (reached h).counts ≡ string_bits (length h.ad) (length h.text)
  unfolding reached bits_taken string_bits
  whole ended full = λ i. 8 * (length (coded_length (sym full i)) + length h.ad + length h.text) + digit (ended i)

  at_most : length h.ad ≤ h.announced → bits_taken (reached h).counts ≤ string_bits h.announced (length h.text)
  unfolding reached bits_taken string_bits
  at_most fits = omega (arith, fits, final h.ended)
    where
      final : (b : Bool) → digit b ≤ 1
      final true = lit≤ tt
      final false = lit≤ tt

  pub clocked : Legal h → Clocked h
  unfolding clocks_of clocks_so_far job_clocks
  clocked l =
      let n = 2 * length (taken h) in
      let running = replicate n (plain grain128) in
      let begins = start_up.clocked e h.key h.nonce in
      record {
        count =
            length-append (start_up_clocks e h.key) running
            ∙ ap₂ ◌+◌ (begins.count l.key_sized ∙ ap running_from (sym edition-reached)) (length-replicate n (plain grain128) ∙ ap (λ (k : ℕ). 2 * k) length_taken);
        job = λ ended.
            length-append (start_up_clocks e h.key) running
            ∙ ap₂ ◌+◌ (begins.count l.key_sized) (length-replicate n (plain grain128) ∙ ap (λ (k : ℕ). 2 * k) (length_taken ∙ whole ended (l.ended_behind_ad ended)));
        most =
            omega (arith, length-append (start_up_clocks e h.key) running, begins.count l.key_sized, length-replicate n (plain grain128), length_taken, at_most l.ad_fits, (job_grows e h.announced (length h.text) ad_limit message_limit l.announced_fits l.text_fits).0);
        lead =
            in_turn-append (start_up_clocks e h.key) running (loaded (bits_in e h.key) (bits_in e h.nonce))
            ∙ ap (in_turn running) begins.lead
            ∙ in_turn-replicate n (plain grain128) start.generator
            ∙ sym (unfold reached in (run-clocked start (taken h)));
      }

-- ---- as calls go on

-- Begin.
pub begun-reached : (h : History) → h.ended ≡ false → h.ad ≡ [] → h.text ≡ [] → going_on.begun h.kind h.edition h.key h.nonce h.announced ≡ reached h
begun-reached h unended no_ad none = λ i. record { machine = machines i; counts = counts i }
  where
    coded : List Bool
    coded = bits_in (e h) (coded_length h.announced)

    machines : run (start h) coded ≡ (reached h).machine
    machines = sym (machine-ad h unended none ∙ ap (λ (s : List Bool). run (start h) (coded ++ s)) (ap (bits_in (e h)) no_ad ∙ no_bits (e h)) ∙ ap (run (start h)) (append-nil coded))

    counts : (going_on.begun h.kind h.edition h.key h.nonce h.announced).counts ≡ (reached h).counts
    counts = unfold reached in (λ i. record (reached h).counts { phase = sym (ap digit unended) i; ad = sym (ap length no_ad) i; message = sym (ap length none) i })

-- A piece of AD, with no message yet.
pub ad_goes_on : (h : History) (piece output : List ℕ) → h.ended ≡ false → h.text ≡ [] → with_ad (reached h) piece ≡ reached (with h (h.ad ++ piece) h.text output h.ended h.tag)
ad_goes_on h piece output unended none = λ i. record { machine = machines i; counts = counts i }
  where
    h' : History
    h' = with h (h.ad ++ piece) h.text output h.ended h.tag

    machines : (with_ad (reached h) piece).machine ≡ (reached h').machine
    machines =
        ap₂ (λ (v : Edition) (st : State). run st (bits_in v piece)) (edition-reached h) (machine-ad h unended none)
        ∙ sym (machine-ad h' unended none ∙ ap (λ (s : List Bool). run (start h) (bits_in (e h) (coded_length h.announced) ++ s)) (bits_in-append (e h) h.ad piece)
        ∙ ap (run (start h)) (sym (append_assoc (bits_in (e h) (coded_length h.announced)) (bits_in (e h) h.ad) (bits_in (e h) piece)))
        ∙ run-append (start h) _ (bits_in (e h) piece))

    counts : (with_ad (reached h) piece).counts ≡ (reached h').counts
    counts = unfold reached in (λ i. record (reached h).counts { ad = sym (length-append h.ad piece) i })

-- An empty piece of AD, whatever the message.
pub ad-stays : (h : History) (output : List ℕ) → with_ad (reached h) [] ≡ reached (with h (h.ad ++ []) h.text output h.ended h.tag)
unfolding reached taken
ad-stays h output = (λ i. record { machine = machines i; counts = counts i }) ∙ ap (λ (s : List ℕ). reached (with h s h.text output h.ended h.tag)) (sym (append-nil h.ad))
  where
    machines : (with_ad (reached h) []).machine ≡ (reached h).machine
    machines = unfold run in (ap (run (reached h).machine) (no_bits (reached h).machine.edition))

    counts : (with_ad (reached h) []).counts ≡ (reached h).counts
    counts = unfold reached in (λ i. record (reached h).counts { ad = add-zero (length h.ad) i })

-- The machine goes through a piece of text as the strings below do.
by_kind : (k : Kind) (st : State) (s : List Bool) → through k st s ≡ strings.through (is_sealing k) st s
unfolding strings.through
by_kind Sealing st s = refl
by_kind Checking st s = refl

-- A piece of message or ciphertext, with all of the AD.
module _ (h : History) (piece output : List ℕ) (unended : h.ended ≡ false) (full : length h.ad ≡ h.announced) where
  next : History
  next = with h h.ad (h.text ++ piece) output h.ended h.tag

  base : State
  base = begun (e h) h.key h.nonce h.ad

  pub text_goes_on : with_text h.kind (reached h) piece ≡ reached (with h h.ad (h.text ++ piece) output h.ended h.tag)
  unfolding next base
  text_goes_on = λ i. record { machine = machines i; counts = counts i }
    where
      machines : (with_text h.kind (reached h) piece).machine ≡ (reached next).machine
      machines =
          ap₂ (λ (v : Edition) (st : State). through h.kind st (bits_in v piece)) (edition-reached h) (machine-text h unended full) ∙ by_kind h.kind _ (bits_in (e h) piece)
          ∙ sym (ap (strings.through (is_sealing h.kind) base) (bits_in-append (e h) h.text piece) ∙ through-append (is_sealing h.kind) base (bits_in (e h) h.text) (bits_in (e h) piece))
          ∙ sym (machine-text next unended full)

      counts : (with_text h.kind (reached h) piece).counts ≡ (reached next).counts
      counts = unfold reached in (λ i. record (reached h).counts { message = sym (length-append h.text piece) i })

  -- Its ciphertext when sealing.
  pub cipher_goes_on : h.kind ≡ Sealing → ciphertext (e h) h.key h.nonce h.ad h.text ++ cipher (reached h) piece ≡ ciphertext (e h) h.key h.nonce h.ad (h.text ++ piece)
  unfolding ciphertext crypt_bytes base
  cipher_goes_on sealing =
      ap (λ (l : List ℕ). ciphertext (e h) h.key h.nonce h.ad h.text ++ l)
      (ap₂ (λ (v : Edition) (st : State). bytes_in v (length piece) (encipher st (bits_in v piece))) (edition-reached h) (machine-text h unended full ∙ ap (λ (k : Kind). strings.through (is_sealing k) base (bits_in (e h) h.text)) sealing))
      ∙ sym (crypt_bytes-append (e h) true base h.text piece)

-- Finish.
module _ (h : History) (unended : h.ended ≡ false) where
  pub finish_goes_on : (output given : List ℕ) → finished (reached h) ≡ reached (with h h.ad h.text output true given)
  finish_goes_on output given = λ i. record { machine = machines i; counts = counts i }
    where
      h' : History
      h' = with h h.ad h.text output true given

      machines : (finished (reached h)).machine ≡ (reached h').machine
      machines = ap (λ (st : State). run st (true ∷ [])) (machine_open h unended) ∙ sym (machine-taken h')

      counts : (finished (reached h)).counts ≡ (reached h').counts
      counts = unfold reached in refl

  pub tag-reached : length h.ad ≡ h.announced → tag_of (reached h) ≡ tag (e h) h.key h.nonce h.ad (message h)
  unfolding tag
  tag-reached full =
      ap₂ (λ (v : Edition) (st : State). bytes_in v tag_size (run st (true ∷ [])).authenticator.accumulator) (edition-reached h)
      (machine_open h unended ∙ ap (λ (st : State). run st (bits_in (e h) (message h))) (opening-begun h full))
      ∙ ap (bytes_in (e h) tag_size) (tag-run (e h) h.key h.nonce h.ad (message h))

-- ---- the authenticated string

-- After finish its bits have been taken.
pub taken-whole : (h : History) → h.ended ≡ true → length h.ad ≡ h.announced → taken h ≡ authenticated h.edition h.ad (message h)
unfolding taken authenticated header
taken-whole h ended full =
    ap₂ (λ (n : ℕ) (b : Bool). (bits_in (e h) (coded_length n) ++ bits_in (e h) h.ad) ++ (bits_in (e h) (message h) ++ cond b (true ∷ []) [])) (sym full) ended
    ∙ sym (append_assoc (bits_in (e h) (coded_length (length h.ad)) ++ bits_in (e h) h.ad) (bits_in (e h) (message h)) (true ∷ []))

-- Strings joined in another grouping.
module _ (c a d m t f : List Bool) where
  no_message_yet : ((c ++ a) ++ []) ++ (d ++ (t ++ f)) ≡ (c ++ (a ++ d)) ++ (([] ++ t) ++ f)
  no_message_yet = simp (append-nil, append_assoc)

  no_ad_left : ((c ++ a) ++ m) ++ (t ++ f) ≡ (c ++ (a ++ [])) ++ ((m ++ t) ++ f)
  no_ad_left = simp (append-nil, append_assoc)

-- Before it those at the front, however AD and message go on.
module _ (h : History) (unended : h.ended ≡ false) (ad text : List ℕ) (full : length (h.ad ++ ad) ≡ h.announced) where
  abbrev coded : List Bool
  coded = bits_in (e h) (coded_length h.announced)

  whole-string : List Bool
  whole-string = authenticated (e h) (h.ad ++ ad) (message h ++ text)

  split : whole-string ≡ (coded ++ (bits_in (e h) h.ad ++ bits_in (e h) ad)) ++ ((bits_in (e h) (message h) ++ bits_in (e h) text) ++ (true ∷ []))
  unfolding whole-string authenticated header
  split =
      append_assoc (bits_in (e h) (coded_length (length (h.ad ++ ad))) ++ bits_in (e h) (h.ad ++ ad)) (bits_in (e h) (message h ++ text)) (true ∷ [])
      ∙ (λ i. (bits_in (e h) (coded_length (full i)) ++ bits_in-append (e h) h.ad ad i) ++ (bits_in-append (e h) (message h) text i ++ (true ∷ [])))

  front : taken h ≡ (coded ++ bits_in (e h) h.ad) ++ bits_in (e h) (message h)
  unfolding taken
  front = ap (λ (b : Bool). (coded ++ bits_in (e h) h.ad) ++ (bits_in (e h) (message h) ++ cond b (true ∷ []) [])) unended ∙ ap (λ (s : List Bool). (coded ++ bits_in (e h) h.ad) ++ s) (append-nil (bits_in (e h) (message h)))

  pub taken_begins : (message h ≡ []) ⊎ (ad ≡ []) → (rest : List Bool) × (taken h ++ rest ≡ authenticated h.edition (h.ad ++ ad) (message h ++ text))
  unfolding whole-string
  taken_begins (inl none) = (
    bits_in (e h) ad ++ (bits_in (e h) text ++ (true ∷ [])),
    ap (λ (s : List Bool). s ++ (bits_in (e h) ad ++ (bits_in (e h) text ++ (true ∷ [])))) (front ∙ ap (λ (s : List Bool). (coded ++ bits_in (e h) h.ad) ++ s) nothing)
        ∙ no_message_yet coded (bits_in (e h) h.ad) (bits_in (e h) ad) [] (bits_in (e h) text) (true ∷ [])
        ∙ sym (split ∙ ap (λ (s : List Bool). (coded ++ (bits_in (e h) h.ad ++ bits_in (e h) ad)) ++ ((s ++ bits_in (e h) text) ++ (true ∷ []))) nothing),
  )
    where
      nothing : bits_in (e h) (message h) ≡ []
      nothing = ap (bits_in (e h)) none ∙ no_bits (e h)
  taken_begins (inr none) = (
    bits_in (e h) text ++ (true ∷ []),
    ap (λ (s : List Bool). s ++ (bits_in (e h) text ++ (true ∷ []))) front
        ∙ no_ad_left coded (bits_in (e h) h.ad) [] (bits_in (e h) (message h)) (bits_in (e h) text) (true ∷ [])
        ∙ sym (split ∙ ap (λ (s : List Bool). (coded ++ (bits_in (e h) h.ad ++ s)) ++ ((bits_in (e h) (message h) ++ bits_in (e h) text) ++ (true ∷ []))) nothing),
  )
    where
      nothing : bits_in (e h) ad ≡ []
      nothing = ap (bits_in (e h)) none ∙ no_bits (e h)
