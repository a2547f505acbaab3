-- Every frame of a capture is listed, each once (document 02, C-19): its leaves, their places, and what fills the capture.
use Rattle.std.specs.Prelude.{◌≡◌, ℕ, zero, suc, ◌+◌, ◌<◌, ◌≤◌, true, List, [], ◌∷◌, ◌++◌, map, length}
use Rattle.bits.specs.Bytes.{Bytes}
use Rattle.refusals.specs.declared.Refusal.TheVariants.{PastLastFrame}
use Rattle.std.specs.Prelude.{Ok, Err}
use Rattle.captures.specs.declared.Part.{Part}
use Rattle.captures.specs.Layout.{part, entry_count, head_size, size_at, offset_at, head_sound, is_frame}
use Rattle.captures.specs.Content.{Content, none, frame, group, head_size_of, section_size, written, Legal, part_of, frames_of}
use Rattle.captures.specs.Calls.{frames, found}

-- The bodies of all frames of a content, in walking order: its leaves.
unfoldable pub leaves : Content → List (List ℕ)
leaves none = []
leaves (frame body rest) = body ∷ leaves rest
leaves (group inside rest) = leaves inside ++ leaves rest

-- A piece of a capture: the head of a section, or a frame.
pub data Piece : Type 0 where
  head_at : Part → Piece
  frame_at : Part → Piece

abbrev pub part_in : Piece → Part
part_in (head_at p) = p
part_in (frame_at p) = p

-- All pieces of some bodies, of which the first begins at `place`, in the order of the bytes; all pieces of a capture.
unfoldable pub pieces_from : (place : ℕ) → Content → List Piece
pieces_from place none = []
pieces_from place (frame body rest) = frame_at (part_of place (length body)) ∷ pieces_from (place + length body) rest
pieces_from place (group inside rest) =
    head_at (part_of place (head_size_of inside))
    ∷ (pieces_from (place + head_size_of inside) inside ++ pieces_from (place + section_size inside) rest)

abbrev pub pieces : Content → List Piece
pieces c = head_at (part_of 0 (head_size_of c)) ∷ pieces_from (head_size_of c) c

-- The frames among some pieces.
unfoldable pub frames_among : List Piece → List Part
frames_among [] = []
frames_among (head_at p ∷ ps) = frames_among ps
frames_among (frame_at p ∷ ps) = p ∷ frames_among ps

-- Pieces that fill the places from one up to another, each where the last ended.
unfoldable pub Fill : (from to : ℕ) → List Piece → Type 0
Fill from to [] = from ≡ to
Fill from to (p ∷ ps) = ((part_in p).start ≡ from) × Fill (from + (part_in p).size) to ps

-- Parts that lie between two places, none of which begins before the last has ended.
unfoldable pub Apart : (from to : ℕ) → List Part → Type 0
Apart from to [] = from ≤ to
Apart from to (p ∷ ps) = (from ≤ p.start) × Apart (p.start + p.size) to ps

-- 0, 1, 2 and so on, n of them from a number on.
unfoldable pub count_up : (n from : ℕ) → List ℕ
count_up zero from = []
count_up (suc n) from = from ∷ count_up n (suc from)

abbrev pub bytes_at : (s : List ℕ) → Part → List ℕ
bytes_at s p = part p.start p.size s

-- Of a capture with a content: the count is that of its leaves; the parts that are found by number have the leaves' bytes, in walking order; none is
-- found under two numbers, and no two overlap; together with the heads they fill the capture.
pub record Listed (s : List ℕ) (c : Content) : Type 0 where
  pub counts : frames s ≡ Ok (length (leaves c))
  pub finds : map (found s) (count_up (length (leaves c)) 0) ≡ map Ok (frames_of 0 c)
  pub past : (number : ℕ) → length (leaves c) ≤ number → found s number ≡ Err PastLastFrame
  pub once : (m n : ℕ) (p : Part) → found s m ≡ Ok p → found s n ≡ Ok p → m ≡ n
  pub bytes : map (bytes_at s) (frames_of 0 c) ≡ leaves c
  pub apart : Apart 0 (length s) (frames_of 0 c)
  pub frames : frames_among (pieces c) ≡ frames_of 0 c
  pub fills : Fill 0 (length s) (pieces c)

-- Every frame is listed, each once.
abbrev pub EveryFrame : Type 0
EveryFrame = (s : List ℕ) (c : Content) → Legal c → s ≡ written c → Listed s c

-- A frame that is found lies in the capture, and its bytes, as many as are said, are a frame's body.
pub record LiesIn (s : List ℕ) (p : Part) : Type 0 where
  pub inside : p.start + p.size ≤ length s
  pub size : length (bytes_at s p) ≡ p.size
  pub body : is_frame (bytes_at s p) ≡ true

abbrev pub FoundInside : Type 0
FoundInside = (s : List ℕ) (number : ℕ) (p : Part) → Bytes s → found s number ≡ Ok p → LiesIn s p

-- The walk looks at no byte past the capture. Where the head of a section is sound, each of its entries lies in it, and so does the body that the entry
-- names, which is all that is walked further; and a part that lies in a string is the same whatever stands behind the string.
pub record OwnBytes (s : List ℕ) : Type 0 where
  pub entries : (k : ℕ) → k < entry_count s → head_size (suc k) ≤ length s
  pub bodies : (k : ℕ) → k < entry_count s → offset_at k s + size_at k s ≤ length s
  pub parts : (at n : ℕ) → at + n ≤ length s → (behind : List ℕ) → part at n (s ++ behind) ≡ part at n s

abbrev pub NothingPast : Type 0
NothingPast = (s : List ℕ) → head_sound s ≡ true → OwnBytes s
