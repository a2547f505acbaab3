-- `captures::walk::section` meets its contract.
use Rattle.std.proofs.Common.{◌≡◌, ℕ, ◌+◌, ◌-◌, ◌<◌, ◌≤◌, true, false, List, length, refl, sym, ap, ◌∙◌, arith}
use Rattle.std.proofs.lemmas.Grind.{common_steps}
use native.Mathlib.Nat.{add-sub_cancel_left}
use lib.ListN.{take, drop}
use Rattle.refusals.specs.Refusals.{Check}
use Rattle.refusals.specs.declared.Refusal.{Refusal}
use Rattle.refusals.specs.declared.Refusal.TheVariants.{BrokenCapture}
use Rattle.captures.specs.declared.walk.Tally.{Tally}
use Rattle.captures.specs.declared.entries.Kind.TheVariants.{Frame, Group}
use Rattle.std.specs.Prelude.{Ok, Err}
use Rattle.captures.specs.Layout.{capture_limit, part, entry_count, head_size, kind_at, size_at, is_frame}
use Rattle.captures.specs.Content.{part_of}
use Rattle.captures.specs.Walk.{walk_section}
use Rattle.captures.specs.Tallies.{counted, tallied, refused_or}
use Rattle.captures.proofs.Heads.{next}
use Rattle.captures.proofs.Reading.{Told, told, unknown}
use Rattle.captures.proofs.Tallying.{no_levels, no_head}
use Rattle.captures.proofs.Chunks.{length-entries, within-count, entry_read}
use Rattle.captures.proofs.SectionLoop.{Left, begins, ends, reaches, sized, frame-broken, frame-counted, group-broken, group-tallied}
use Rattle.captures.proofs.walk.+section.Goals as goal
use Rattle.captures.proofs.walk.+section.Goals.{In-Some, In-Some-read, in-Frame, in-Group+in_ok-section-in-Group}

pub returns-then-levels-eq0 : goal.returns-then-levels-eq0
returns-then-levels-eq0 t c =
    let a = c.args in
    sym (no_levels a.sought.0 a.tally.now a.base a.s.now a.levels c.if-levels-eq0.true)

pub returns-in_default : goal.returns-in_default
returns-in_default t c =
    let a = c.args in
    sym (no_head a.sought.0 a.tally.now a.base a.s.now a.levels (omega (arith, c.if-levels-eq0.false)) c.in_default.ensures)

-- The loop begins.
module _ (t : ℕ) (c : In-Some t) where
  count : length c.in-Some.entries.now ≡ entry_count c.args.s.now
  count = ap length c.in-Some.ensures.1 ∙ length-entries c.args.s.now

  begun : Left c.args.sought.0 c.args.tally.now c.args.base c.args.levels c.args.s.now (entry_count c.args.s.now) c.args.tally.now (head_size (length c.in-Some.entries.now)) 0
  begun =
      let a = c.args in
      rw count (begins a.sought.0 a.tally.now a.base a.levels a.s.now (entry_count a.s.now) refl (omega (arith, c.if-levels-eq0.false)) c.in-Some.ensures.0 c.requires.0)

pub overflow_mul-place : goal.overflow_mul-place
overflow_mul-place t c = record { fits = omega (arith, count t (goal.at.overflow_mul-place t c).In-Some, (begun t (goal.at.overflow_mul-place t c).In-Some).few) }

pub overflow_add-place : goal.overflow_add-place
overflow_add-place t c = record { fits = omega (arith, count t (goal.at.overflow_add-place t c).In-Some, (begun t (goal.at.overflow_add-place t c).In-Some).few) }

pub loop-e-init : goal.loop-e-init
loop-e-init t c = begun t (goal.at.loop-e-init t c).In-Some

-- A turn of the loop, where the kind of entry k is known.
module _ (t : ℕ) (d : In-Some-read t) where
  abbrev sought : ℕ
  sought = d.args.sought.0

  abbrev first : Tally
  first = d.args.tally.now

  abbrev base : ℕ
  base = d.args.base

  abbrev levels : ℕ
  levels = d.args.levels

  abbrev s : List ℕ
  s = d.args.s.now

  abbrev n : ℕ
  n = entry_count d.args.s.now

  abbrev tally : Tally
  tally = d.loop-e.tally

  abbrev place : ℕ
  place = d.loop-e.place

  abbrev k : ℕ
  k = d.loop-e.e-index

  abbrev size : ℕ
  size = d.in-Some-read.field-0.size

  abbrev body : List ℕ
  body = take (place + size - place) (drop place s)

  part_is : body ≡ part place size s
  part_is = ap (λ (m : ℕ). take m (drop place s)) (add-sub_cancel_left place size)

  left : Left sought first base levels s n tally place k
  left = d.loop-e.invariant

  read_at : Told (kind_at k s) (size_at k s) d.in-Some-read.field-0
  read_at = told (kind_at k s) (size_at k s) d.in-Some-read.field-0 (sym (entry_read s d.in-Some.entries.now d.in-Some.ensures.1 k d.loop-e-test.true) ∙ sym d.read.ensures ∙ d.in-Some-read.is)

  more : k < n
  more = within-count s d.in-Some.entries.now d.in-Some.ensures.1 k d.loop-e-test.true

  -- The body lies in the capture.
  reaches_at : base + (place + size) ≤ capture_limit
  reaches_at =
      omega (arith, reaches sought first tally base levels s n place k left more size read_at.size body part_is, d.requires.1)

  -- The body lies in the section.
  inside_at : place + size ≤ length s
  inside_at = reaches sought first tally base levels s n place k left more size read_at.size body part_is

  sized_at : length body ≡ size
  sized_at = sized sought first tally base levels s n place k left more size read_at.size body part_is

  frame_broken_at : d.in-Some-read.field-0.kind ≡ Frame → is_frame body ≡ false → Err BrokenCapture ≡ tallied sought first base (walk_section levels s)
  frame_broken_at z = frame-broken sought first tally base levels s n place k left more size read_at.size body part_is (read_at.frame z)

  frame_counted_at : (u : Tally) → d.in-Some-read.field-0.kind ≡ Frame → is_frame body ≡ true → u ≡ counted sought tally (part_of (base + place) size)
      → Left sought first base levels s n u (place + size) (k + 1)
  frame_counted_at u z is e = rw e (frame-counted sought first tally base levels s n place k left more size read_at.size body part_is (read_at.frame z) is)

  group_broken_at : (r : Refusal) → (d.in-Some-read.field-0.kind ≡ Group) → Err r ≡ tallied sought tally (base + place) (walk_section (levels - 1) body)
      → Err r ≡ tallied sought first base (walk_section levels s)
  group_broken_at r z = group-broken sought first tally base levels s n place k left more size read_at.size body part_is r (read_at.group z)

  group_tallied_at : (u : Tally) → (d.in-Some-read.field-0.kind ≡ Group) → Ok u ≡ tallied sought tally (base + place) (walk_section (levels - 1) body)
      → Left sought first base levels s n u (place + size) (k + 1)
  group_tallied_at u z = group-tallied sought first tally base levels s n place k left more size read_at.size body part_is u (read_at.group z)

pub returns-in_default-read : goal.returns-in_default-read
returns-in_default-read t c =
    let s = c.args.s.now in
    let k = c.loop-e.e-index in
    let es = c.in-Some.entries.now in
    let all = c.in-Some.ensures.1 in
    let e = next (entry_count s) k c.loop-e.place s (within-count s es all k c.loop-e-test.true) c.loop-e.invariant.entries in
    absurd (omega (arith, e.kind, unknown (kind_at k s) (size_at k s) (sym (entry_read s es all k c.loop-e-test.true) ∙ sym c.read.ensures ∙ c.in_default-read.is)))

pub overflow_add-b : goal.overflow_add-b
overflow_add-b t c = record { fits = omega (arith, reaches_at t (goal.at.overflow_add-b t c).In-Some-read) }

pub slice_bounds-b-end : goal.slice_bounds-b-end
slice_bounds-b-end t c = omega (arith, inside_at t (goal.at.slice_bounds-b-end t c).In-Some-read)

pub overflow_add-start : goal.overflow_add-start
overflow_add-start t c = record { fits = omega (arith, reaches_at t (goal.at.overflow_add-start t c).In-Some-read) }

pub count-requires : goal.count-requires
count-requires t c = omega (arith, c.loop-e.invariant.fewer, reaches_at t (goal.at.count-requires t c).In-Some-read)

pub returns-in-Frame-2 : goal.returns-in-Frame-2
returns-in-Frame-2 t c =
    frame_broken_at t (goal.at.returns-in-Frame-2 t c).In-Some-read (cc) (sym c.is_frame.ensures ∙ c.if-is_frame.false)

pub section-requires : goal.section-requires
section-requires t c =
    let d = (goal.at.section-requires t c).In-Some-read in
    (omega (arith, c.if-levels-eq0.false, c.decreases), (c.loop-e.invariant.fewer, omega (arith, reaches_at t d, sized_at t d)))

pub returns-in_err-section-in-Group : goal.returns-in_err-section-in-Group
returns-in_err-section-in-Group t c =
    let e = group_broken_at t (goal.at.returns-in_err-section-in-Group t c).In-Some-read _ (cc) (sym (ap (λ (p : Check). refused_or p c.section.new.tally) c.in_err-section-in-Group.was) ∙ c.section.ensures) in
    grind (arith, common_steps, e)

pub overflow_add-place-in-loop-e : goal.overflow_add-place-in-loop-e
overflow_add-place-in-loop-e t c = record { fits = omega (arith, reaches_at t (goal.at.overflow_add-place-in-loop-e t c).In-Some-read) }

pub loop-e-preserved : goal.loop-e-preserved
loop-e-preserved t c =
    let d = (goal.at.loop-e-preserved t c).In-Some-read in
    elim c.match-kind.branch [
      | in-Frame w ↦ frame_counted_at t d _ (cc) (sym w.is_frame.ensures ∙ w.if-is_frame.true) (w.tally-is ∙ w.count.ensures)
      | in-Group+in_ok-section-in-Group w ↦ group_tallied_at t d _ (cc) (ap Ok w.tally-is ∙ sym (ap (λ (p : Check). refused_or p w.section.new.tally) w.in_ok-section-in-Group.was) ∙ w.section.ensures)
    ]

pub returns : goal.returns
returns t c =
    let a = c.args in
    let done = rw (count t (goal.at.returns t c).In-Some) at c.loop-e-test.false in
    ends a.sought.0 a.tally.now a.base a.levels a.s.now (entry_count c.args.s.now) c.loop-e.tally c.loop-e.place c.loop-e.e-index c.loop-e.invariant done
