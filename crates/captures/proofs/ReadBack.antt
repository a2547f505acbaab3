-- What the walk finds is what is written, and the other way round.
-- Assumes nothing.
use Rattle.std.proofs.Common.{◌≡◌, ℕ, zero, suc, ◌+◌, ◌*◌, ◌≤◌, Bool, true, false, cond, ltb, List, length, drop, sym, refl, ap, ◌∙◌, arith, take-append-drop, ltb-false, eqb-true}
use lib.Seq.{drop-length}
use Rattle.bits.specs.Bytes.{Bytes}
use Rattle.refusals.specs.declared.Refusal.TheVariants.{BrokenCapture}
use Rattle.captures.specs.Layout.{capture_limit, depth_limit, part, entry_count, head_size, kind_at, size_at, entries_sound}
use Rattle.captures.specs.Content.{Content, none, group, section_size, entries, bodies, written, Inside, Legal}
use Rattle.captures.specs.Walk.{Walked, broken, sound, walk_section, walk_capture}
use Rattle.captures.specs.ReadBack.{ReadBack}
use Rattle.captures.proofs.Places.{part-part, part-drop, length_part, Bytes-part, spelled-part, entry-parts}
use Rattle.captures.proofs.Finds.{broken-not-sound, Bodies, nothing, a_frame, a_group, bodies-found, entry-sound, section_found, no_section}
use Rattle.captures.proofs.Sizes.{bodies-count, found-size, section_size_lem, section_inside}
use Rattle.captures.proofs.Writing.{Walks, finds, too_deep, capture_walks}

-- The entries and bodies of what was found are those that were read.
module _
    (walk : List ℕ → Walked) (sizes : (body : List ℕ) (c : Content) → walk body ≡ sound c → section_size c ≡ length body)
    (reads : (body : List ℕ) (c : Content) → Bytes body → walk body ≡ sound c → written c ≡ body)
  where
    bodies-read : (s : List ℕ) {left k place : ℕ} {c : Content} → Bodies walk s left k place c → Bytes s → head_size k + 8 * left ≤ length s
        → entries_sound left k place s ≡ true → (entries c place ≡ part (head_size k) (8 * left) s) × (bodies c ≡ drop place s)
    unfolding entries_sound entries bodies
    bodies-read s (nothing {place = place}) is_bytes fits sounds = (refl, cc (eqb-true place (length s) sounds, drop-length s))
    bodies-read s (a_frame {left = left} {k = k} {place = place} z f r) is_bytes fits sounds =
        let h = entry-sound left k place s sounds in
        let behind = bodies-read s r is_bytes (omega arith) h.behind in
        let long = length_part place (size_at k s) s (omega (arith, found-size walk sizes s r h.behind)) in
        (cc (entry-parts left k s is_bytes fits), cc (part-drop place (size_at k s) s))
    bodies-read s (a_group {left = left} {k = k} {place = place} {b = b} z f r) is_bytes fits sounds =
        let h = entry-sound left k place s sounds in
        let behind = bodies-read s r is_bytes (omega arith) h.behind in
        let long = length_part place (size_at k s) s (omega (arith, found-size walk sizes s r h.behind)) in
        let one : kind_at k s ≡ 1 = omega arith in
        (cc (entry-parts left k s is_bytes fits, sizes _ b f), cc (reads _ b (Bytes-part place (size_at k s) s is_bytes) f, part-drop place (size_at k s) s))

-- A section that was found is what its content writes.
pub section_read : (levels : ℕ) (s : List ℕ) (c : Content) → Bytes s → walk_section levels s ≡ sound c → written c ≡ s
section_read zero s c is_bytes e = absurd (no_section s c e)
section_read (suc levels) s c is_bytes e =
    let h = section_found levels s c e in
    let n = entry_count s in
    let count = bodies-count (walk_section levels) n 0 (head_size n) s c h.bodies in
    let b = bodies-read (walk_section levels) (section_size_lem levels) (section_read levels) s (bodies-found (walk_section levels) n 0 (head_size n) s c h.bodies) is_bytes (omega (arith, h.head.fits)) h.head.entries in
    cc (spelled-part 0 2 s is_bytes (omega (arith, h.head.fits)), b.0, b.1, part-part 0 2 (8 * n) s, take-append-drop (head_size n) s)

-- ---- captures

-- A capture that was found is not too long.
pub capture_found : (s : List ℕ) (c : Content) → walk_capture s ≡ sound c → (length s ≤ capture_limit) × (walk_section depth_limit s ≡ sound c)
unfolding walk_capture
capture_found s c = go (ltb capture_limit (length s)) refl
  where
    go : (b : Bool) → ltb capture_limit (length s) ≡ b → cond b (broken BrokenCapture) (walk_section depth_limit s) ≡ sound c
        → (length s ≤ capture_limit) × (walk_section depth_limit s ≡ sound c)
    go true h e = absurd (broken-not-sound refl e)
    go false h e = (ltb-false _ _ h, e)

-- Its content is legal.
capture_legal : (s : List ℕ) (c : Content) → walk_capture s ≡ sound c → Legal c
unfolding Inside
capture_legal s c e =
    let f = capture_found s c e in
    let i = section_inside depth_limit s c f.1 in
    record { entries = i.0; inside = i.1; size = omega (arith, section_size_lem depth_limit s c f.1) }

-- A legal content is found in what it writes.
pub legal-found : (c : Content) → Legal c → walk_capture (written c) ≡ sound c
unfolding Inside
legal-found c h = go (capture_walks c 5 h.entries h.inside h.size)
  where
    go : {w : Walked} → Walks (Inside depth_limit (group c none)) c w → w ≡ sound c
    go (finds i e) = e
    go (too_deep i e) = absurd (i (h.entries, h.inside, tt))

pub read_back : ReadBack
read_back s c is_bytes = (λ e. (capture_legal s c e, sym (section_read depth_limit s c is_bytes (capture_found s c e).1)), λ h. ap walk_capture h.1 ∙ legal-found c h.0)
