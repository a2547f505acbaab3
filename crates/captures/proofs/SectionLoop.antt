-- What the loop over a section's bodies keeps, and a turn of it.
-- Assumes nothing.
use Rattle.std.proofs.Common.{◌≡◌, ℕ, suc, ◌+◌, ◌-◌, ◌<◌, ◌≤◌, true, false, List, length, sym, ap, ◌∙◌, add-one, arith}
use native.Mathlib.Nat.{sub-zero}
use Rattle.refusals.specs.declared.Refusal.{Refusal}
use Rattle.refusals.specs.declared.Refusal.TheVariants.{BrokenCapture}
use Rattle.captures.specs.declared.walk.Tally.{Tally}
use Rattle.std.specs.Prelude.{Ok, Err}
use Rattle.captures.specs.Layout.{entry_limit, part, entry_count, head_size, kind_at, size_at, entries_sound, head_sound, is_frame}
use Rattle.captures.specs.Content.{frames_from, part_of}
use Rattle.captures.specs.Walk.{walk_bodies, walk_section}
use Rattle.captures.specs.Tallies.{counted, counted_all, tallied}
use Rattle.captures.proofs.Finds.{Entry, head-found}
use Rattle.captures.proofs.Heads as heads
use Rattle.captures.proofs.Sizes.{frame-size, section_size_lem}
use Rattle.captures.proofs.Tallying.{tallied_from, with-head, frames-tallied, frame_breaks, group_breaks, frame_turn, group_turn}

-- After k of n bodies: those that are left come, with the tally so far, to what the whole section comes to with the first tally.
pub record Left (sought : ℕ) (t₀ : Tally) (base levels : ℕ) (s : List ℕ) (n : ℕ) (t : Tally) (place k : ℕ) : Type 0 where
  pub passed : k ≤ n
  pub few : n ≤ entry_limit
  pub there : head_size n ≤ length s
  pub fewer : t.frames ≤ base + place
  pub entries : entries_sound (n - k) k place s ≡ true
  pub comes : tallied sought t₀ base (walk_section levels s) ≡ tallied_from sought t (base + place) (walk_bodies (walk_section (levels - 1)) (n - k) k place s)

pub begins : (sought : ℕ) (t : Tally) (base levels : ℕ) (s : List ℕ) (n : ℕ) → n ≡ entry_count s → 0 < levels → head_sound s ≡ true → t.frames ≤ base
    → Left sought t base levels s n t (head_size n) 0
begins sought t base levels s n e h sound less =
    let f = head-found s sound in
    rw e
    record {
      passed = omega arith;
      few = f.count;
      there = f.fits;
      fewer = omega arith;
      entries = rw sub-zero f.entries;
      comes = rw sub-zero (with-head sought t base s levels h sound);
    }

pub ends : (sought : ℕ) (t₀ : Tally) (base levels : ℕ) (s : List ℕ) (n : ℕ) (t : Tally) (place k : ℕ) → Left sought t₀ base levels s n t place k → n ≤ k
    → Ok t ≡ tallied sought t₀ base (walk_section levels s)
unfolding walk_bodies frames_from counted_all
ends sought t₀ base levels s n t place k left done =
    let none : n - k ≡ 0 = omega (arith, left.passed) in
    sym (left.comes ∙ rw none)

module _ (sought : ℕ) (t₀ t : Tally) (base levels : ℕ) (s : List ℕ) (n place k : ℕ) (left : Left sought t₀ base levels s n t place k) (h : k < n) where
  entry : Entry (n - (k + 1)) k place s
  entry = heads.next n k place s h left.entries

  -- The body of entry k lies in the section.
  inside : place + size_at k s ≤ length s
  inside = heads.within (n - (k + 1)) (suc k) (place + size_at k s) s entry.behind

  whole : length (part place (size_at k s) s) ≡ size_at k s
  whole = heads.whole (n - (k + 1)) k place s entry

  -- The body of entry k passed, and the tally as it is then.
  passing : (u : Tally) → u.frames ≤ base + (place + size_at k s)
      → tallied sought t₀ base (walk_section levels s)
      ≡ tallied_from sought u (base + (place + size_at k s)) (walk_bodies (walk_section (levels - 1)) (n - (k + 1)) (k + 1) (place + size_at k s) s)
      → Left sought t₀ base levels s n u (place + size_at k s) (k + 1)
  passing u fewer comes = record {
    passed = omega arith;
    few = left.few;
    there = left.there;
    fewer = fewer;
    entries = ap (λ (j : ℕ). entries_sound (n - (k + 1)) j (place + size_at k s) s) (add-one k) ∙ entry.behind;
    comes = comes;
  }

  -- Its size and its bytes, as they were read.
  module _ (size : ℕ) (z : size ≡ size_at k s) (body : List ℕ) (b : body ≡ part place size s) where
    e : body ≡ part place (size_at k s) s
    e = b ∙ ap (λ (m : ℕ). part place m s) z

    pub reaches : place + size ≤ length s
    reaches = rw z inside

    pub sized : length body ≡ size
    sized = ap length e ∙ whole ∙ sym z

    pub frame-broken : kind_at k s ≡ 0 → is_frame body ≡ false → Err BrokenCapture ≡ tallied sought t₀ base (walk_section levels s)
    frame-broken kind other =
        sym (left.comes ∙ ap (tallied_from sought t (base + place)) (frame_breaks (walk_section (levels - 1)) n k place s h kind (rw e at other)))

    pub frame-counted : kind_at k s ≡ 0 → is_frame body ≡ true
        → Left sought t₀ base levels s n (counted sought t (part_of (base + place) size)) (place + size) (k + 1)
    frame-counted kind is =
        let long : 17 ≤ size_at k s = rw whole at (frame-size (part place (size_at k s) s) (rw e at is)) in
        rw z
        (passing (counted sought t (part_of (base + place) (size_at k s))) (omega (arith, left.fewer))
        (left.comes ∙ frame_turn (walk_section (levels - 1)) n k place s h sought t base whole kind (rw e at is)))

    pub group-broken : (r : Refusal) → (kind_at k s ≡ 0 → ⊥) → Err r ≡ tallied sought t (base + place) (walk_section (levels - 1) body)
        → Err r ≡ tallied sought t₀ base (walk_section levels s)
    group-broken r kind found =
        sym (left.comes
        ∙ ap (tallied_from sought t (base + place)) (group_breaks (walk_section (levels - 1)) n k place s h sought t (base + place) r kind (sym (rw e at found))))

    pub group-tallied : (u : Tally) → (kind_at k s ≡ 0 → ⊥) → Ok u ≡ tallied sought t (base + place) (walk_section (levels - 1) body)
        → Left sought t₀ base levels s n u (place + size) (k + 1)
    group-tallied u kind found =
        let walked = sym (rw e at found) in
        rw z
        (passing u (omega (arith, left.fewer, frames-tallied sought t (base + place) (levels - 1) (part place (size_at k s) s) u walked, whole))
        (left.comes ∙ group_turn (walk_section (levels - 1)) n k place s h sought t base whole u kind (section_size_lem (levels - 1) (part place (size_at k s) s)) walked))
