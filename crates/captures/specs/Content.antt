-- What a section holds, its bodies in order; how it is written, and where its frames lie (document 02, C-19).
use Rattle.std.specs.Prelude.{◌≡◌, ℕ, zero, suc, ◌+◌, ◌*◌, ◌≤◌, true, List, [], ◌∷◌, ◌++◌, length}
use Rattle.bits.specs.Bytes.{word, bytes}
use Rattle.captures.specs.declared.Part.{Part}
use Rattle.captures.specs.Layout.{capture_limit, entry_limit, head_size, is_frame}

-- Nothing; a frame's body, and what follows it; a group, which is a section with a content of its own, and what follows it.
pub data Content : Type 0 where
  none : Content
  frame : (body : List ℕ) → Content → Content
  group : Content → Content → Content

-- How many entries a section with this content has.
unfoldable pub entry_count_of : Content → ℕ
entry_count_of none = 0
entry_count_of (frame body rest) = suc (entry_count_of rest)
entry_count_of (group inside rest) = suc (entry_count_of rest)

-- The size of its head, of all its bodies, and of the whole section.
abbrev pub head_size_of : Content → ℕ
head_size_of c = head_size (entry_count_of c)

unfoldable pub bodies_size : Content → ℕ
bodies_size none = 0
bodies_size (frame body rest) = length body + bodies_size rest
bodies_size (group inside rest) = head_size_of inside + bodies_size inside + bodies_size rest

abbrev pub section_size : Content → ℕ
section_size c = head_size_of c + bodies_size c

-- A number in n bytes, high byte first.
unfoldable pub spelled : (n x : ℕ) → List ℕ
spelled n x = bytes n (word (8 * n) x)

abbrev pub entry : (kind size offset : ℕ) → List ℕ
entry kind size offset = spelled 1 kind ++ (spelled 3 size ++ spelled 4 offset)

-- The entries, where the first body begins at `place` and each next where the last ended.
unfoldable pub entries : Content → (place : ℕ) → List ℕ
entries none place = []
entries (frame body rest) place = entry 0 (length body) place ++ entries rest (place + length body)
entries (group inside rest) place = entry 1 (section_size inside) place ++ entries rest (place + section_size inside)

-- The head of a section, its bodies in entry order, and the section.
abbrev pub head : Content → List ℕ
head c = spelled 2 (entry_count_of c) ++ entries c (head_size_of c)

unfoldable pub bodies : Content → List ℕ
bodies none = []
bodies (frame body rest) = body ++ bodies rest
bodies (group inside rest) = (head inside ++ bodies inside) ++ bodies rest

abbrev pub written : Content → List ℕ
written c = head c ++ bodies c

-- Under a section with this content lie at most so many levels of groups; no group has too many entries, and every frame is one.
unfoldable pub Inside : (levels : ℕ) → Content → Type 0
Inside levels none = Unit {0}
Inside levels (frame body rest) = (is_frame body ≡ true) × Inside levels rest
Inside zero (group inside rest) = ⊥
Inside (suc levels) (group inside rest) = (entry_count_of inside ≤ entry_limit) × Inside levels inside × Inside (suc levels) rest

-- A legal content of a capture: the outermost section is one level, and there are five below it.
pub record Legal (c : Content) : Type 0 where
  pub entries : entry_count_of c ≤ entry_limit
  pub inside : Inside 5 c
  pub size : section_size c ≤ capture_limit

abbrev pub part_of : (start size : ℕ) → Part
part_of start size = record { start = start; size = size }

-- The frames among the bodies, in walking order, where the first body begins at `place`.
unfoldable pub frames_from : (place : ℕ) → Content → List Part
frames_from place none = []
frames_from place (frame body rest) = part_of place (length body) ∷ frames_from (place + length body) rest
frames_from place (group inside rest) = frames_from (place + head_size_of inside) inside ++ frames_from (place + section_size inside) rest

-- Those of a section that begins at `base`; of a capture, that begins at 0.
abbrev pub frames_of : (base : ℕ) → Content → List Part
frames_of base c = frames_from (base + head_size_of c) c
