-- The loop's invariant: the entries that are left decide what the whole head does.
use Rattle.std.proofs.Common.{◌≡◌, ◌+◌, ◌-◌, ◌*◌, ◌≤◌}
use Rattle.captures.specs.Layout.{entry_count, entries_sound, head_sound}
use Rattle.captures.specs.Reading.{entries_of}
use Rattle.captures.proofs.entries.sound.Given as goal

abbrev pub invariant-loop-e : goal.invariant-loop-e
invariant-loop-e l = record {
  all : l.entries ≡ entries_of l.s;
  passed : l.e-index ≤ entry_count l.s;
  few : entry_count l.s ≤ 255;
  near : l.place ≤ 2042 + l.e-index * 16777216;
  left : head_sound l.s ≡ entries_sound (entry_count l.s - l.e-index) l.e-index l.place l.s;
}
