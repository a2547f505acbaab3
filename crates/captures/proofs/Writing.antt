-- The walk of what a content writes: it finds the content again, unless a group in it lies too deep.
-- Assumes nothing.
use Rattle.std.proofs.Common.{◌≡◌, ℕ, zero, suc, ◌+◌, ◌≤◌, true, List, ◌++◌, length, drop, refl, ap, ◌∙◌, append_assoc, arith, drop_at, le-ltb, eq-eqb, le-leb}
use Rattle.refusals.specs.declared.Refusal.TheVariants.{TooDeep}
use Rattle.captures.specs.Layout.{capture_limit, entry_limit, depth_limit, part, entry_count, head_size, entries_sound, head_sound, is_frame}
use Rattle.captures.specs.Content.{Content, none, frame, group, entry_count_of, head_size_of, bodies_size, section_size, spelled, entry, entries, head, bodies, written, Inside}
use Rattle.captures.specs.Walk.{Walked, broken, sound, group_before, walk_body, walk_bodies, walk_section, walk_capture}
use Rattle.captures.proofs.Spelled.{length-spelled}
use Rattle.captures.proofs.Places.{here, behind, number_here, EntryAt, entry_here}
use Rattle.captures.proofs.Finds.{sound-entry}
use Rattle.captures.proofs.Sizes.{length-head, length-written}

-- What a walk comes to: a content where a condition holds, 18 where it does not.
pub data Walks (condition : Type 0) (c : Content) (w : Walked) : Type 0 where
  finds : condition → w ≡ sound c → Walks condition c w
  too_deep : (condition → ⊥) → w ≡ broken TooDeep → Walks condition c w

-- A frame before what the rest comes to, and a group.
frame_walks : (levels : ℕ) (walk : List ℕ → Walked) (body : List ℕ) (d : Content) (w : Walked) → is_frame body ≡ true
    → Walks (Inside levels d) d w → Walks (Inside levels (frame body d)) (frame body d) (walk_body walk 0 body w)
unfolding Inside
frame_walks levels walk body d w f (finds i e) = finds (f, i) (rw (f, e))
frame_walks levels walk body d w f (too_deep i e) = too_deep (λ h. i h.1) (rw (f, e))

group_walks : (levels : ℕ) (b d : Content) (v w : Walked)
    → Walks (Inside levels (group b none)) b v → Walks (Inside levels d) d w → Walks (Inside levels (group b d)) (group b d) (group_before v w)
unfolding Inside
group_walks zero b d v w (finds i e) h = absurd i
group_walks zero b d v w (too_deep i e) h = too_deep i (rw e)
group_walks (suc levels) b d v w (finds i e) (finds j f) = finds (i.0, i.1, j) (rw (e, f))
group_walks (suc levels) b d v w (finds i e) (too_deep j f) = too_deep (λ h. j h.2) (rw (e, f))
group_walks (suc levels) b d v w (too_deep i e) h = too_deep (λ k. i (k.0, k.1, tt)) (rw e)

-- The entries and the bodies of a content, from some places of a section on.
record Stands (c : Content) (k place : ℕ) (s rest : List ℕ) : Type 0 where
  entries_at : drop (head_size k) s ≡ entries c place ++ rest
  bodies_at : drop place s ≡ bodies c
  size : length s ≡ place + bodies_size c
  small : length s ≤ capture_limit

-- In what it writes a content stands from the head's end on.
written_stands : (c : Content) → section_size c ≤ capture_limit → Stands c 0 (head_size_of c) (written c) (bodies c)
written_stands c small = record {
  entries_at = ap (drop 2) (append_assoc (spelled 2 (entry_count_of c)) _ _) ∙ drop_at (spelled 2 (entry_count_of c)) _ 2 (length-spelled 2 (entry_count_of c));
  bodies_at = drop_at (head c) (bodies c) (head_size_of c) (length-head c);
  size = length-written c;
  small = omega (arith, length-written c);
}

-- The entries are sound, and the bodies walk.
record Right (levels : ℕ) (c : Content) (k place : ℕ) (s : List ℕ) : Type 0 where
  sounds : entries_sound (entry_count_of c) k place s ≡ true
  walks : Walks (Inside levels c) c (walk_bodies (walk_section levels) (entry_count_of c) k place s)

-- A section walks as its bodies do, one level down.
section_walks : (levels : ℕ) (c : Content) → entry_count_of c ≤ entry_limit
    → ((l : ℕ) → Right l c 0 (head_size_of c) (written c)) → Walks (Inside levels (group c none)) c (walk_section levels (written c))
unfolding Inside walk_section head_sound
section_walks zero c few right = too_deep (λ h. h) refl
section_walks (suc levels) c few right = rw (is_head, count) (go (right levels).walks)
  where
    count : entry_count (written c) ≡ entry_count_of c
    count = number_here 0 2 (entry_count_of c) (written c) _ (omega arith) (append_assoc (spelled 2 (entry_count_of c)) _ _)

    is_head : head_sound (written c) ≡ true
    is_head = rw (count, le-leb (entry_count_of c) entry_limit few, le-leb (head_size_of c) (length (written c)) (omega (arith, length-written c))) (right levels).sounds

    go : {w : Walked} → Walks (Inside levels c) c w → Walks (Inside (suc levels) (group c none)) c w
    go (finds i e) = finds (few, i, tt) e
    go (too_deep i e) = too_deep (λ h. i h.1) e

-- A body in place, and the content behind it.
record Next (kind : ℕ) (body : List ℕ) (d : Content) (k place : ℕ) (s rest : List ℕ) : Type 0 where
  known : kind ≤ 1
  entry_is : EntryAt k kind (length body) place s (entries d (place + length body) ++ rest)
  body_is : part place (length body) s ≡ body
  stands : Stands d (suc k) (place + length body) s rest

next : (kind : ℕ) (body : List ℕ) (d : Content) (k place : ℕ) (s rest : List ℕ) → kind ≤ 1
    → drop (head_size k) s ≡ (entry kind (length body) place ++ entries d (place + length body)) ++ rest → drop place s ≡ body ++ bodies d
    → length s ≡ place + (length body + bodies_size d) → length s ≤ capture_limit → Next kind body d k place s rest
next kind body d k place s rest known e f size small =
    let at = entry_here k kind (length body) place s _ (omega arith) (omega arith) (omega arith) (e ∙ append_assoc (entry kind (length body) place) _ rest) in
    record {
      known = known;
      entry_is = at;
      body_is = here place (length body) s body (bodies d) refl f;
      stands = record { entries_at = at.next; bodies_at = behind place (length body) s body (bodies d) refl f; size = omega arith; small = small };
    }

-- What the body and the content behind it come to is what the walk comes to.
right_next : {levels kind : ℕ} {body : List ℕ} {c d : Content} {k place : ℕ} {s rest : List ℕ} → Next kind body d k place s rest
    → Right levels d (suc k) (place + length body) s → entry_count_of c ≡ suc (entry_count_of d)
    → Walks (Inside levels c) c (walk_body (walk_section levels) kind body (walk_bodies (walk_section levels) (entry_count_of d) (suc k) (place + length body) s))
    → Right levels c k place s
unfolding walk_bodies
right_next {d = d} {k = k} {place = place} {s = s} n r count walks = record {
  sounds =
      rw count (
      sound-entry (entry_count_of d) k place s
      record { kind = omega (arith, n.entry_is.kind_is, n.known); offset = n.entry_is.offset_is; behind = rw n.entry_is.size_is r.sounds }
      );
  walks = rw (count, n.entry_is.kind_is, n.entry_is.size_is, n.body_is) walks;
}

-- By the content, whatever levels are left.
bodies_walk : (c : Content) (big levels k place : ℕ) (s rest : List ℕ) → Inside big c → Stands c k place s rest → Right levels c k place s
unfolding Inside entries bodies bodies_size entry_count_of
bodies_walk none big levels k place s rest i h = record {
  sounds = unfold entries_sound in (eq-eqb place (length s) (omega (arith, h.size)));
  walks = unfold walk_bodies in (finds tt refl);
}
bodies_walk (frame body d) big levels k place s rest i h =
    let n = next 0 body d k place s rest (omega arith) h.entries_at h.bodies_at h.size h.small in
    let r = bodies_walk d big levels (suc k) (place + length body) s rest i.1 n.stands in
    right_next n r refl (frame_walks levels (walk_section levels) body d _ i.0 r.walks)
bodies_walk (group b d) zero levels k place s rest i h = absurd i
bodies_walk (group b d) (suc big) levels k place s rest i h =
    let size = length-written b in
    let n = next 1 (written b) d k place s rest (omega arith) (rw size h.entries_at) h.bodies_at (omega (arith, h.size)) h.small in
    let r = bodies_walk d (suc big) levels (suc k) (place + length (written b)) s rest i.2 n.stands in
    let inside : (l : ℕ) → Right l b 0 (head_size_of b) (written b) = λ l. bodies_walk b big l 0 (head_size_of b) (written b) (bodies b) i.1 (written_stands b (omega (arith, h.size, h.small))) in
    right_next n r refl (group_walks levels b d _ _ (section_walks levels b i.0 inside) r.walks)

-- The whole section, and the whole capture.
written_walks : (c : Content) (big levels : ℕ) → entry_count_of c ≤ entry_limit → Inside big c → section_size c ≤ capture_limit
    → Walks (Inside levels (group c none)) c (walk_section levels (written c))
written_walks c big levels few i small = section_walks levels c few (λ l. bodies_walk c big l 0 (head_size_of c) (written c) (bodies c) i (written_stands c small))

pub capture_walks : (c : Content) (big : ℕ) → entry_count_of c ≤ entry_limit → Inside big c → section_size c ≤ capture_limit
    → Walks (Inside depth_limit (group c none)) c (walk_capture (written c))
unfolding walk_capture
capture_walks c big few i small =
    rw (le-ltb capture_limit (length (written c)) (omega (arith, length-written c))) (written_walks c big depth_limit few i small)
