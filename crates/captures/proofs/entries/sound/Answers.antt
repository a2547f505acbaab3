-- `captures::entries::sound` meets its contract.
use Rattle.std.proofs.Common.{◌≡◌, ℕ, ◌+◌, ◌-◌, ◌*◌, ◌<◌, eqb, List, length, sym, ap, ◌∙◌, arith, eq-eqb, ne_eqb}
use native.Mathlib.Nat.{sub-zero, add-sub_cancel_left}
use Rattle.captures.specs.Layout.{head_size, kind_at, size_at, offset_at, entry_count, entries_sound, head_sound}
use Rattle.captures.proofs.Places.{number_at_bound}
use Rattle.captures.proofs.Heads.{head-none, head-entries, head_many, head-short, turn_kind, turn_offset, turn, turned}
use Rattle.captures.proofs.Reading.{Told, unknown, told}
use Rattle.captures.proofs.Chunks.{number_read, length-entries, entries_cut, within-count, entry_read, entry_offset}
use Rattle.captures.proofs.entries.sound.Goals as goal
use Rattle.captures.proofs.entries.sound.Goals.{After-offset, After-loop-e}

pub returns-then-s-lt2 : goal.returns-then-s-lt2
returns-then-s-lt2 c = head-none c.args.s.now c.if-s-lt2.true

pub returns-then-count-gt255 : goal.returns-then-count-gt255
returns-then-count-gt255 c =
    let n = number_read 0 2 c.args.s.now c.number-count.result (omega arith) c.number-count.ensures in
    head_many c.args.s.now (rw (← n) c.if-count-gt255.true)

pub returns-then-s-place : goal.returns-then-s-place
returns-then-s-place c =
    let n = number_read 0 2 c.args.s.now c.number-count.result (omega arith) c.number-count.ensures in
    head-short c.args.s.now (rw (← n) c.if-count-gt255.false) (rw (← n) c.if-s-place.true)

pub loop-e-init : goal.loop-e-init
loop-e-init c =
    let s = c.args.s.now in
    let n = c.number-count.result in
    let e = number_read 0 2 s n (omega arith) c.number-count.ensures in
    record {
      all = entries_cut s n (2 + 8 * n - 2) c.as_chunks.result.0.now e c.if-s-place.false (add-sub_cancel_left 2 (8 * n)) c.as_chunks.ensures.front;
      passed = omega arith;
      few = rw (← e) c.if-count-gt255.false;
      near = omega arith;
      left =
          head-entries s (rw (← e) c.if-count-gt255.false) (rw (← e) c.if-s-place.false) ∙ ap (λ (m : ℕ). entries_sound m 0 (head_size (entry_count s)) s) (sym (sub-zero (entry_count s)))
          ∙ ap (λ (m : ℕ). entries_sound (entry_count s - 0) 0 (head_size m) s) (sym e);
    }

pub returns-in_err-entry : goal.returns-in_err-entry
returns-in_err-entry c =
    let l = c.loop-e in
    let k = l.e-index in
    let s = c.args.s.now in
    let more = c.loop-e-test.true in
    let es = c.as_chunks.result.0.now in
    let none = sym (entry_read s es l.invariant.all k more) ∙ sym c.read.ensures ∙ c.in_err-entry.was in
    rw c.from_residual.ensures
    (l.invariant.left ∙ turn_kind (entry_count s) k l.place s (within-count s es l.invariant.all k more) (unknown (kind_at k s) (size_at k s) none))

-- What entry k tells.
module _ (d : After-offset) where
  abbrev s : List ℕ
  s = d.args.s.now

  abbrev k : ℕ
  k = d.loop-e.e-index

  more : k < entry_count s
  more = within-count s d.as_chunks.result.0.now d.loop-e.invariant.all k d.loop-e-test.true

  tells : Told (kind_at k s) (size_at k s) d.in_ok-entry.entry
  tells = told (kind_at k s) (size_at k s) d.in_ok-entry.entry (sym (entry_read s d.as_chunks.result.0.now d.loop-e.invariant.all k d.loop-e-test.true) ∙ sym d.read.ensures ∙ d.in_ok-entry.was)

  offset_is : d.offset.result ≡ offset_at k s
  offset_is = d.offset.ensures ∙ entry_offset s d.as_chunks.result.0.now d.loop-e.invariant.all k d.loop-e-test.true

pub returns-then-offset-place : goal.returns-then-offset-place
returns-then-offset-place c =
    let d = (goal.at.returns-then-offset-place c).After-offset in
    c.loop-e.invariant.left ∙ turn_offset (entry_count (s d)) (k d) c.loop-e.place (s d) (more d) (tells d).known (rw (offset_is d) at c.if-offset-place.true)

pub overflow_add-place-in-loop-e : goal.overflow_add-place-in-loop-e
overflow_add-place-in-loop-e c =
    let d = (goal.at.overflow_add-place-in-loop-e c).After-offset in
    record { fits = omega (arith, c.loop-e.invariant.near, c.loop-e.invariant.few, more d, (tells d).size, number_at_bound (head_size (k d) + 1) 3 (s d)) }

pub loop-e-preserved : goal.loop-e-preserved
loop-e-preserved c =
    let d = (goal.at.loop-e-preserved c).After-offset in
    record {
      all = c.loop-e.invariant.all;
      passed = omega (arith, more d);
      few = c.loop-e.invariant.few;
      near = omega (arith, c.loop-e.invariant.near, (tells d).size, number_at_bound (head_size (k d) + 1) 3 (s d));
      left =
          c.loop-e.invariant.left
          ∙ turn (entry_count (s d)) (k d) c.loop-e.place (s d) (more d) (tells d).known (sym (offset_is d) ∙ c.if-offset-place.false)
          ∙ ap (λ (size : ℕ). entries_sound (entry_count (s d) - (k d + 1)) (k d + 1) (c.loop-e.place + size) (s d)) (sym (tells d).size);
    }

-- Where the last entry is passed.
ended : (d : After-loop-e) → head_sound d.args.s.now ≡ eqb d.loop-e.place (length d.args.s.now)
ended d =
    let l = d.loop-e in
    let s = d.args.s.now in
    let none = rw (ap length l.invariant.all ∙ length-entries s) at d.loop-e-test.false in
    l.invariant.left ∙ turned (entry_count s) l.e-index l.place s l.invariant.passed none

pub returns-then-place-s : goal.returns-then-place-s
returns-then-place-s c = ended (goal.at.returns-then-place-s c).After-loop-e ∙ ne_eqb _ _ c.if-place-s.true

pub returns : goal.returns
returns c = (ended (goal.at.returns c).After-loop-e ∙ eq-eqb _ _ c.if-place-s.false, c.loop-e.invariant.all)
