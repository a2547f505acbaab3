-- The sizes of a content are those of the bytes that it was found in, and of those that it writes.
-- Assumes nothing.
use Rattle.std.proofs.Common.{◌≡◌, ℕ, zero, suc, ◌+◌, ◌*◌, ◌≤◌, true, ltb, List, ◌++◌, length, drop, refl, ap, arith, length-append, length-drop, length-take, eqb-true}
use mathlib.Core.Bool.{and-eq-true_iff}
use Rattle.length_codes.specs.LengthCodes.{is_code}
use Rattle.captures.specs.Layout.{identifier_limit, number, entry_count, head_size, size_at, identifier_part, code_part, entries_sound, is_frame}
use Rattle.captures.specs.Content.{Content, none, frame, group, entry_count_of, head_size_of, bodies_size, section_size, spelled, entries, head, bodies, written, Inside, frames_from, frames_of}
use Rattle.captures.specs.Walk.{Walked, sound, walk_bodies, walk_section}
use Rattle.captures.proofs.Spelled.{length-spelled}
use Rattle.captures.proofs.Places.{length-entry}
use Rattle.captures.proofs.Finds.{Bodies, nothing, a_frame, a_group, bodies-found, entry-sound, section_found, no_section}

-- ---- of what the walk finds

module _ (walk : List ℕ → Walked) where
  -- It has as many entries as were walked.
  pub bodies-count : (left k place : ℕ) (s : List ℕ) (c : Content) → walk_bodies walk left k place s ≡ sound c → entry_count_of c ≡ left
  unfolding entry_count_of
  bodies-count left k place s c e = go (bodies-found walk left k place s c e)
    where
      go : {left k place : ℕ} {c : Content} → Bodies walk s left k place c → entry_count_of c ≡ left
      go nothing = refl
      go (a_frame z f r) = ap suc (go r)
      go (a_group z f r) = ap suc (go r)

  -- The bodies end where the section does.
  module _ (sizes : (body : List ℕ) (c : Content) → walk body ≡ sound c → section_size c ≡ length body) where
    pub found-size : (s : List ℕ) {left k place : ℕ} {c : Content} → Bodies walk s left k place c → entries_sound left k place s ≡ true → place + bodies_size c ≡ length s
    unfolding entries_sound bodies_size
    found-size s (nothing {place = place}) sounds = omega (arith, eqb-true place (length s) sounds)
    found-size s (a_frame {left = left} {k = k} {place = place} z f r) sounds =
        omega (arith, found-size s r (entry-sound left k place s sounds).behind, length-take (size_at k s) (drop place s), length-drop place s)
    found-size s (a_group {left = left} {k = k} {place = place} {b = b} z f r) sounds =
        omega (arith, found-size s r (entry-sound left k place s sounds).behind, sizes _ b f, length-take (size_at k s) (drop place s), length-drop place s)

    pub bodies_size_lem : (left k place : ℕ) (s : List ℕ) (c : Content) → entries_sound left k place s ≡ true → walk_bodies walk left k place s ≡ sound c
        → place + bodies_size c ≡ length s
    bodies_size_lem left k place s c sounds e = found-size s (bodies-found walk left k place s c e) sounds

-- A section that was found has the size of its content.
pub section_size_lem : (levels : ℕ) (s : List ℕ) (c : Content) → walk_section levels s ≡ sound c → section_size c ≡ length s
section_size_lem zero s c e = absurd (no_section s c e)
section_size_lem (suc levels) s c e =
    let h = section_found levels s c e in
    let n = bodies-count (walk_section levels) (entry_count s) 0 (head_size (entry_count s)) s c h.bodies in
    omega (arith, bodies_size_lem (walk_section levels) (section_size_lem levels) (entry_count s) 0 (head_size (entry_count s)) s c h.head.entries h.bodies)

-- Its groups are as deep as the levels that are left allow.
group-inside : (levels : ℕ) (b d : Content) → Inside levels (group b none) → Inside levels d → Inside levels (group b d)
unfolding Inside
group-inside zero b d h k = h
group-inside (suc levels) b d h k = (h.0, h.1, k)

pub bodies-inside : (levels : ℕ) (walk : List ℕ → Walked) → ((body : List ℕ) (c : Content) → walk body ≡ sound c → Inside levels (group c none))
    → (left k place : ℕ) (s : List ℕ) (c : Content) → walk_bodies walk left k place s ≡ sound c → Inside levels c
unfolding Inside
bodies-inside levels walk groups left k place s c e = go (bodies-found walk left k place s c e)
  where
    go : {left k place : ℕ} {c : Content} → Bodies walk s left k place c → Inside levels c
    go nothing = tt
    go (a_frame z f r) = (f, go r)
    go (a_group {b = b} {d = d} z f r) = group-inside levels b d (groups _ b f) (go r)

pub section_inside : (levels : ℕ) (s : List ℕ) (c : Content) → walk_section levels s ≡ sound c → Inside levels (group c none)
unfolding Inside
section_inside zero s c e = no_section s c e
section_inside (suc levels) s c e =
    let h = section_found levels s c e in
    let n = bodies-count (walk_section levels) (entry_count s) 0 (head_size (entry_count s)) s c h.bodies in
    (omega (arith, h.head.count), bodies-inside levels (walk_section levels) (section_inside levels) (entry_count s) 0 (head_size (entry_count s)) s c h.bodies, tt)

-- ---- of frames

-- A frame has identifier, code and nonce at least.
pub frame-size : (body : List ℕ) → is_frame body ≡ true → 17 ≤ length body
unfolding is_frame
frame-size body e =
    let p = (and-eq-true_iff (ltb (number (identifier_part body)) identifier_limit) _).0 e in
    let q = (and-eq-true_iff (is_code (number (code_part body))) _).0 p.1 in
    omega (arith, eqb-true (length body) _ q.1)

-- There are no more frames than bytes in the bodies.
pub frames_fewer : (levels place : ℕ) (c : Content) → Inside levels c → length (frames_from place c) ≤ bodies_size c
unfolding frames_from bodies_size Inside
frames_fewer levels place none h = omega arith
frames_fewer levels place (frame body d) h = omega (arith, frame-size body h.0, frames_fewer levels (place + length body) d h.1)
frames_fewer zero place (group b d) h = absurd h
frames_fewer (suc levels) place (group b d) h =
    simp length-append (omega (arith, frames_fewer levels (place + head_size_of b) b h.1, frames_fewer (suc levels) (place + section_size b) d h.2))

-- In a section that was found there are no more of them than bytes in it.
pub frames-found : (levels base : ℕ) (s : List ℕ) (c : Content) → walk_section levels s ≡ sound c → length (frames_of base c) ≤ length s
unfolding Inside
frames-found zero base s c e = absurd (no_section s c e)
frames-found (suc levels) base s c e = omega (arith, section_size_lem (suc levels) s c e, frames_fewer levels (base + head_size_of c) c (section_inside (suc levels) s c e).1)

-- ---- of what a content writes

-- Its entries, its head, its bodies and the whole section are as long as was said.
pub length-entries : (c : Content) (place : ℕ) → length (entries c place) ≡ 8 * entry_count_of c
unfolding entries entry_count_of
length-entries none place = refl
length-entries (frame body d) place = rw length-append (omega (arith, length-entry 0 (length body) place, length-entries d (place + length body)))
length-entries (group b d) place = rw length-append (omega (arith, length-entry 1 (section_size b) place, length-entries d (place + section_size b)))

pub length-head : (c : Content) → length (head c) ≡ head_size_of c
length-head c = omega (arith, length-append (spelled 2 (entry_count_of c)) (entries c (head_size_of c)), length-spelled 2 (entry_count_of c), length-entries c (head_size_of c))

pub length-bodies : (c : Content) → length (bodies c) ≡ bodies_size c
unfolding bodies bodies_size
length-bodies none = refl
length-bodies (frame body d) = simp length-append (omega (arith, length-bodies d))
length-bodies (group b d) =
    omega (arith, length-append (head b ++ bodies b) (bodies d), length-append (head b) (bodies b), length-head b, length-bodies b, length-bodies d)

pub length-written : (c : Content) → length (written c) ≡ section_size c
length-written c = omega (arith, length-append (head c) (bodies c), length-head c, length-bodies c)
