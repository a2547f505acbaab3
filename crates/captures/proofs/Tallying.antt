-- Walking the bodies of a section while frames are counted and one of them is sought.
-- Assumes nothing.
use Rattle.std.proofs.Common.{◌≡◌, ℕ, zero, suc, ◌+◌, ◌-◌, ◌<◌, ◌≤◌, true, false, List, [], ◌∷◌, ◌++◌, length, sym, refl, ap, ◌∙◌, ap₂, not-suc-le-zero, add-zero, add_assoc, add-one, sub-one, arith}
use Rattle.refusals.specs.declared.Refusal.{Refusal}
use Rattle.refusals.specs.declared.Refusal.TheVariants.{BrokenCapture, TooDeep}
use Rattle.captures.specs.declared.Part.{Part}
use Rattle.captures.specs.declared.walk.Tally.{Tally}
use Rattle.captures.specs.Answers.{Tallied}
use Rattle.std.specs.Prelude.{Ok, Err}
use Rattle.captures.specs.Layout.{part, entry_count, head_size, kind_at, size_at, head_sound, is_frame}
use Rattle.captures.specs.Content.{Content, frame, entry_count_of, section_size, frames_from, frames_of, part_of}
use Rattle.captures.specs.Walk.{Walked, broken, sound, before, group_before, walk_body, walk_bodies, walk_section}
use Rattle.captures.specs.Tallies.{counted, counted_all, tallied}
use Rattle.captures.proofs.Sizes.{bodies-count, frames-found}

pub counted-append : (sought : ℕ) (t : Tally) (ps qs : List Part) → counted_all sought t (ps ++ qs) ≡ counted_all sought (counted_all sought t ps) qs
unfolding counted_all
counted-append sought t [] qs = refl
counted-append sought t (p ∷ ps) qs = counted-append sought (counted sought t p) ps qs

pub frames-counted : (sought : ℕ) (t : Tally) (ps : List Part) → (counted_all sought t ps).frames ≡ t.frames + length ps
unfolding counted_all
frames-counted sought t [] = sym (add-zero t.frames)
frames-counted sought t (p ∷ ps) = frames-counted sought (counted sought t p) ps ∙ omega arith

-- What bodies come to of which the first begins at `place` of the capture.
abbrev pub tallied_from : (sought : ℕ) → Tally → (place : ℕ) → Walked → Tallied
tallied_from sought t place (broken r) = Err r
tallied_from sought t place (sound c) = Ok (counted_all sought t (frames_from place c))

-- A section.
pub no_levels : (sought : ℕ) (t : Tally) (base : ℕ) (s : List ℕ) (levels : ℕ) → levels ≡ 0 → tallied sought t base (walk_section levels s) ≡ Err TooDeep
unfolding walk_section
no_levels sought t base s levels e = rw e

pub no_head : (sought : ℕ) (t : Tally) (base : ℕ) (s : List ℕ) (levels : ℕ) → 0 < levels → head_sound s ≡ false
    → tallied sought t base (walk_section levels s) ≡ Err BrokenCapture
unfolding walk_section
no_head sought t base s zero h e = absurd (not-suc-le-zero h)
no_head sought t base s (suc levels) h e = rw e

behind-head : (sought : ℕ) (t : Tally) (base n : ℕ) (w : Walked) → ((c : Content) → w ≡ sound c → entry_count_of c ≡ n)
    → tallied sought t base w ≡ tallied_from sought t (base + head_size n) w
behind-head sought t base n (broken r) counts = refl
behind-head sought t base n (sound c) counts = ap (λ (m : ℕ). Ok (counted_all sought t (frames_from (base + head_size m) c))) (counts c refl)

pub with-head : (sought : ℕ) (t : Tally) (base : ℕ) (s : List ℕ) (levels : ℕ) → 0 < levels → head_sound s ≡ true
    → tallied sought t base (walk_section levels s)
    ≡ tallied_from sought t (base + head_size (entry_count s)) (walk_bodies (walk_section (levels - 1)) (entry_count s) 0 (head_size (entry_count s)) s)
unfolding walk_section
with-head sought t base s zero h e = absurd (not-suc-le-zero h)
with-head sought t base s (suc levels) h e =
    rw (e, sub-one (suc levels))
    (behind-head sought t base (entry_count s) (walk_bodies (walk_section levels) (entry_count s) 0 (head_size (entry_count s)) s)
    (bodies-count (walk_section levels) (entry_count s) 0 (head_size (entry_count s)) s))

-- It has no more frames than bytes.
pub frames-tallied : (sought : ℕ) (t : Tally) (base levels : ℕ) (s : List ℕ) (u : Tally) → tallied sought t base (walk_section levels s) ≡ Ok u
    → u.frames ≤ t.frames + length s
frames-tallied sought t base levels s u e = go (walk_section levels s) refl e
  where
    go : (w : Walked) → walk_section levels s ≡ w → tallied sought t base w ≡ Ok u → u.frames ≤ t.frames + length s
    go (broken r) f e = let z : ◌≡◌ {A = ℕ} 0 1 = cc in absurd (omega arith)
    go (sound c) f e =
        let same : u.frames ≡ (counted_all sought t (frames_of base c)).frames = cc in
        omega (arith, frames-counted sought t (frames_of base c), frames-found levels base s c f)

-- Of n bodies, those from k on.
module _ (walk : List ℕ → Walked) (n k place : ℕ) (s : List ℕ) (h : k < n) where
  abbrev pub rest : Walked
  rest = walk_bodies walk (n - (k + 1)) (k + 1) (place + size_at k s) s

  opened : walk_bodies walk (n - k) k place s ≡ walk_body walk (kind_at k s) (part place (size_at k s) s) rest
  unfolding walk_bodies
  opened =
      let more : n - k ≡ suc (n - (k + 1)) = omega arith in
      rw more (simp add-one)

  pub frame_breaks : kind_at k s ≡ 0 → is_frame (part place (size_at k s) s) ≡ false → walk_bodies walk (n - k) k place s ≡ broken BrokenCapture
  frame_breaks kind e = opened ∙ rw (kind, e)

  stopped : (sought : ℕ) (t : Tally) (base : ℕ) (r : Refusal) (kind : ℕ) (g : Walked) → (kind ≡ 0 → ⊥) → walk (part place (size_at k s) s) ≡ g → tallied sought t base g ≡ Err r
      → walk_body walk kind (part place (size_at k s) s) rest ≡ broken r
  stopped sought t base r zero g nonzero e f = absurd (nonzero refl)
  stopped sought t base r (suc kind) (broken q) nonzero e f = let same : q ≡ r = cc in rw (e, same)
  stopped sought t base r (suc kind) (sound c) nonzero e f = let z : ◌≡◌ {A = ℕ} 0 1 = cc in absurd (omega arith)

  pub group_breaks : (sought : ℕ) (t : Tally) (base : ℕ) (r : Refusal) → (kind_at k s ≡ 0 → ⊥) → tallied sought t base (walk (part place (size_at k s) s)) ≡ Err r
      → walk_bodies walk (n - k) k place s ≡ broken r
  group_breaks sought t base r kind e = opened ∙ stopped sought t base r (kind_at k s) (walk (part place (size_at k s) s)) kind refl e

  module _ (sought : ℕ) (t : Tally) (base : ℕ) (whole : length (part place (size_at k s) s) ≡ size_at k s) where
    pub frame_turn : kind_at k s ≡ 0 → is_frame (part place (size_at k s) s) ≡ true
        → tallied_from sought t (base + place) (walk_bodies walk (n - k) k place s)
        ≡ tallied_from sought (counted sought t (part_of (base + place) (size_at k s))) (base + (place + size_at k s)) rest
    unfolding frames_from counted_all
    frame_turn kind e = ap (tallied_from sought t (base + place)) opened ∙ rw (kind, e) (one_frame rest)
      where
        one_frame : (w : Walked) → tallied_from sought t (base + place) (before (frame (part place (size_at k s) s)) w)
            ≡ tallied_from sought (counted sought t (part_of (base + place) (size_at k s))) (base + (place + size_at k s)) w
        one_frame (broken r) = refl
        one_frame (sound c) = rw (whole, add_assoc base place (size_at k s))

    pub group_turn : (u : Tally) → (kind_at k s ≡ 0 → ⊥)
        → ((c : Content) → walk (part place (size_at k s) s) ≡ sound c → section_size c ≡ length (part place (size_at k s) s))
        → tallied sought t (base + place) (walk (part place (size_at k s) s)) ≡ Ok u
        → tallied_from sought t (base + place) (walk_bodies walk (n - k) k place s) ≡ tallied_from sought u (base + (place + size_at k s)) rest
    unfolding frames_from
    group_turn u kind sizes e =
        ap (tallied_from sought t (base + place)) (opened ∙ other (kind_at k s) kind)
        ∙ one_group (walk (part place (size_at k s) s)) rest (λ c f. sizes c f ∙ whole) e
      where
        other : (kind : ℕ) → (kind ≡ 0 → ⊥) → walk_body walk kind (part place (size_at k s) s) rest ≡ group_before (walk (part place (size_at k s) s)) rest
        other zero nonzero = absurd (nonzero refl)
        other (suc kind) nonzero = refl

        one_group : (g w : Walked) → ((c : Content) → g ≡ sound c → section_size c ≡ size_at k s) → tallied sought t (base + place) g ≡ Ok u
            → tallied_from sought t (base + place) (group_before g w) ≡ tallied_from sought u (base + (place + size_at k s)) w
        one_group (broken r) w sizes e = let z : ◌≡◌ {A = ℕ} 0 1 = cc in absurd (omega arith)
        one_group (sound g) (broken r) sizes e = refl
        one_group (sound g) (sound c) sizes e =
            ap Ok (counted-append sought t (frames_of (base + place) g) (frames_from (base + place + section_size g) c)
            ∙ ap₂ (λ (v : Tally) (at : ℕ). counted_all sought v (frames_from at c)) (cc) (ap (λ (size : ℕ). base + place + size) (sizes g refl) ∙ add_assoc base place (size_at k s)))
