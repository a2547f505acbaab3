-- What a section and its bodies are, where the walk has found their content.
-- Assumes nothing.
use Rattle.std.proofs.Common.{◌≡◌, ℕ, zero, suc, ◌+◌, ◌<◌, ◌≤◌, Bool, true, false, cond, eqb, leb, List, length, refl, subst, arith, eq-eqb, eqb-true, le-leb, leb-true}
use mathlib.Core.Bool.{and-eq-true_iff}
use Rattle.refusals.specs.declared.Refusal.{Refusal}
use Rattle.refusals.specs.declared.Refusal.TheVariants.{BrokenCapture}
use Rattle.captures.specs.Layout.{entry_limit, part, entry_count, head_size, kind_at, size_at, offset_at, entries_sound, head_sound, is_frame}
use Rattle.captures.specs.Content.{Content, none, frame, group}
use Rattle.captures.specs.Walk.{Walked, broken, sound, before, group_before, walk_body, walk_bodies, walk_section}

-- A walk that broke has found nothing.
pub broken-not-sound : {w : Walked} {r : Refusal} {c : Content} → w ≡ broken r → w ≡ sound c → ⊥
broken-not-sound p q = let z : ◌≡◌ {A = ℕ} 0 1 = cc in omega arith

-- The bodies that were found, so many, from that of entry k on, which begins at a place.
pub data Bodies (walk : List ℕ → Walked) (s : List ℕ) : (left k place : ℕ) → Content → Type 0 where
  nothing : {k place : ℕ} → Bodies walk s 0 k place none
  a_frame : {left k place : ℕ} {d : Content} → kind_at k s ≡ 0 → is_frame (part place (size_at k s) s) ≡ true → Bodies walk s left (suc k) (place + size_at k s) d
      → Bodies walk s (suc left) k place (frame (part place (size_at k s) s) d)
  a_group : {left k place : ℕ} {b d : Content} → 0 < kind_at k s → walk (part place (size_at k s) s) ≡ sound b → Bodies walk s left (suc k) (place + size_at k s) d
      → Bodies walk s (suc left) k place (group b d)

pub bodies-found : (walk : List ℕ → Walked) (left k place : ℕ) (s : List ℕ) (c : Content) → walk_bodies walk left k place s ≡ sound c → Bodies walk s left k place c
unfolding walk_bodies
bodies-found walk zero k place s c e = subst (Bodies walk s 0 k place) (cc) nothing
bodies-found walk (suc left) k place s c e = go (kind_at k s) refl (bodies-found walk left (suc k) (place + size_at k s) s) (walk_bodies walk left (suc k) (place + size_at k s) s) refl e
  where
    body : List ℕ
    body = part place (size_at k s) s

    go : (kind : ℕ) → kind_at k s ≡ kind → ((d : Content) → walk_bodies walk left (suc k) (place + size_at k s) s ≡ sound d → Bodies walk s left (suc k) (place + size_at k s) d)
        → (rest : Walked) → walk_bodies walk left (suc k) (place + size_at k s) s ≡ rest → walk_body walk kind body rest ≡ sound c → Bodies walk s (suc left) k place c
    go zero z found rest r = frames (is_frame body) refl rest r
      where
        frames : (f : Bool) → is_frame body ≡ f → (rest : Walked) → walk_bodies walk left (suc k) (place + size_at k s) s ≡ rest
            → cond f (before (frame body) rest) (broken BrokenCapture) ≡ sound c → Bodies walk s (suc left) k place c
        frames true f (sound d) r e = subst (Bodies walk s (suc left) k place) (cc) (a_frame z f (found d r))
        frames true f (broken q) r e = absurd (broken-not-sound refl e)
        frames false f rest r e = absurd (broken-not-sound refl e)
    go (suc kind) z found rest r = groups (walk body) refl rest r
      where
        groups : (w : Walked) → walk body ≡ w → (rest : Walked) → walk_bodies walk left (suc k) (place + size_at k s) s ≡ rest → group_before w rest ≡ sound c
            → Bodies walk s (suc left) k place c
        groups (sound b) f (sound d) r e = subst (Bodies walk s (suc left) k place) (cc) (a_group (omega arith) f (found d r))
        groups (sound b) f (broken q) r e = absurd (broken-not-sound refl e)
        groups (broken q) f rest r e = absurd (broken-not-sound refl e)

-- A sound entry, and the entries behind it.
pub record Entry (left k place : ℕ) (s : List ℕ) : Type 0 where
  pub kind : kind_at k s ≤ 1
  pub offset : offset_at k s ≡ place
  pub behind : entries_sound left (suc k) (place + size_at k s) s ≡ true

pub entry-sound : (left k place : ℕ) (s : List ℕ) → entries_sound (suc left) k place s ≡ true → Entry left k place s
unfolding entries_sound
entry-sound left k place s e =
    let p = (and-eq-true_iff (leb (kind_at k s) 1) _).0 e in
    let q = (and-eq-true_iff (eqb (offset_at k s) place) _).0 p.1 in
    record { kind = leb-true _ _ p.0; offset = eqb-true _ _ q.0; behind = q.1 }

pub sound-entry : (left k place : ℕ) (s : List ℕ) → Entry left k place s → entries_sound (suc left) k place s ≡ true
unfolding entries_sound
sound-entry left k place s h = rw (le-leb (kind_at k s) 1 h.kind, eq-eqb (offset_at k s) place h.offset) h.behind

-- What a sound head tells.
pub record Head (s : List ℕ) : Type 0 where
  pub count : entry_count s ≤ entry_limit
  pub fits : head_size (entry_count s) ≤ length s
  pub entries : entries_sound (entry_count s) 0 (head_size (entry_count s)) s ≡ true

pub head-found : (s : List ℕ) → head_sound s ≡ true → Head s
unfolding head_sound
head-found s e =
    let p = (and-eq-true_iff (leb (entry_count s) entry_limit) _).0 e in
    let q = (and-eq-true_iff (leb (head_size (entry_count s)) (length s)) _).0 p.1 in
    record { count = leb-true _ _ p.0; fits = leb-true _ _ q.0; entries = q.1 }

-- A section that was found: its head is sound, and so are its bodies.
pub record Section (levels : ℕ) (s : List ℕ) (c : Content) : Type 0 where
  pub head : Head s
  pub bodies : walk_bodies (walk_section levels) (entry_count s) 0 (head_size (entry_count s)) s ≡ sound c

pub section_found : (levels : ℕ) (s : List ℕ) (c : Content) → walk_section (suc levels) s ≡ sound c → Section levels s c
unfolding walk_section
section_found levels s c = go (head_sound s) refl
  where
    go : (h : Bool) → head_sound s ≡ h → cond h (walk_bodies (walk_section levels) (entry_count s) 0 (head_size (entry_count s)) s) (broken BrokenCapture) ≡ sound c → Section levels s c
    go true h e = record { head = head-found s h; bodies = e }
    go false h e = absurd (broken-not-sound refl e)

-- With no level left nothing is found.
pub no_section : (s : List ℕ) (c : Content) → walk_section 0 s ≡ sound c → ⊥
unfolding walk_section
no_section s c e = broken-not-sound refl e
