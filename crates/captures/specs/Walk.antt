-- The walk of a capture (document 02, C-19): its content, or the first break in walking order, a section's entries before its bodies.
use Rattle.std.specs.Prelude.{ℕ, zero, suc, ◌+◌, cond, List, length, nat_lt}
use Rattle.refusals.specs.declared.Refusal.{Refusal}
use Rattle.refusals.specs.declared.Refusal.TheVariants.{BrokenCapture, TooDeep}
use Rattle.captures.specs.Layout.{capture_limit, depth_limit, part, entry_count, head_size, kind_at, size_at, head_sound, is_frame}
use Rattle.captures.specs.Content.{Content, none, frame, group}

-- What a walk finds: its first break, or a content.
pub data Walked : Type 0 where
  broken : Refusal → Walked
  sound : Content → Walked

-- A body that is in order, before what the rest comes to.
abbrev pub before : (Content → Content) → (rest : Walked) → Walked
before put (broken r) = broken r
before put (sound c) = sound (put c)

abbrev pub group_before : Walked → (rest : Walked) → Walked
group_before (broken r) rest = broken r
group_before (sound c) rest = before (group c) rest

-- A body of a kind, where a group's is walked by `walk`, and what the rest comes to. The entries have told that the kind is 0 or 1.
abbrev pub walk_body : (walk : List ℕ → Walked) → (kind : ℕ) → (body : List ℕ) → (rest : Walked) → Walked
walk_body walk zero body rest = cond (is_frame body) (before (frame body) rest) (broken BrokenCapture)
walk_body walk (suc kind) body rest = group_before (walk body) rest

-- The bodies that are left of a section, from that of entry k on, which begins at `place`.
unfoldable pub walk_bodies : (walk : List ℕ → Walked) → (left k place : ℕ) → List ℕ → Walked
walk_bodies walk zero k place s = sound none
walk_bodies walk (suc left) k place s =
    walk_body walk (kind_at k s) (part place (size_at k s) s) (walk_bodies walk left (suc k) (place + size_at k s) s)

-- A section, with so many levels left for it and the groups in it. With none left it is a group too deep, whatever its bytes are.
unfoldable pub walk_section : (levels : ℕ) → List ℕ → Walked
walk_section zero s = broken TooDeep
walk_section (suc levels) s =
    cond (head_sound s) (walk_bodies (walk_section levels) (entry_count s) 0 (head_size (entry_count s)) s) (broken BrokenCapture)

-- A capture: not too long, and a section with all levels.
unfoldable pub walk_capture : List ℕ → Walked
walk_capture s = cond (nat_lt capture_limit (length s)) (broken BrokenCapture) (walk_section depth_limit s)
