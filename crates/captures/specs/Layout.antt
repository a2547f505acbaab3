-- The layout of a capture (document 02, C-19): numbers, the head of a section with its entries, and frame bodies.
use Rattle.std.specs.Prelude.{ℕ, zero, suc, ◌+◌, ◌*◌, ◌^◌, Bool, ◌&&◌, List, length, take, drop, ◌==◌, nat_le, nat_lt}
use Rattle.bits.specs.Bytes.{value, bits}
use Rattle.length_codes.specs.LengthCodes.{is_code, coded_length}

-- A capture has at most so many bytes, a section at most so many entries; the outermost section is depth 1 of at most so many.
abbrev pub capture_limit : ℕ
capture_limit = 65536

abbrev pub entry_limit : ℕ
entry_limit = 255

abbrev pub depth_limit : ℕ
depth_limit = 6

-- Identifiers are below this.
abbrev pub identifier_limit : ℕ
identifier_limit = 2 ^ 29

-- n bytes of a string from a place on; fewer where the string ends before.
abbrev pub part : (at n : ℕ) → List ℕ → List ℕ
part at n s = take n (drop at s)

-- The number that bytes spell, high byte first.
unfoldable pub number : List ℕ → ℕ
number s = value (bits s)

abbrev pub number_at : (at n : ℕ) → List ℕ → ℕ
number_at at n s = number (part at n s)

-- A section's entry count, in two bytes. Count and entries are its head; entry k stands behind the count and k entries.
abbrev pub entry_count : List ℕ → ℕ
entry_count s = number_at 0 2 s

abbrev pub head_size : (entries : ℕ) → ℕ
head_size entries = 2 + 8 * entries

-- An entry: one byte of kind (0 frame, 1 group), three of length, four of offset from the section's start.
abbrev pub kind_at : (k : ℕ) → List ℕ → ℕ
kind_at k s = number_at (head_size k) 1 s

abbrev pub size_at : (k : ℕ) → List ℕ → ℕ
size_at k s = number_at (head_size k + 1) 3 s

abbrev pub offset_at : (k : ℕ) → List ℕ → ℕ
offset_at k s = number_at (head_size k + 4) 4 s

-- The entries that are left, from entry k on: each is a frame or a group, and its body begins at `place`, where the last one ended. The final
-- body ends the section; without entries it ends after the count.
unfoldable pub entries_sound : (left k place : ℕ) → List ℕ → Bool
entries_sound zero k place s = place == (length s)
entries_sound (suc left) k place s =
    nat_le (kind_at k s) 1 && (offset_at k s == place && entries_sound left (suc k) (place + size_at k s) s)

-- The head of a section: the count is legal, count and entries are there, the entries are sound and the first body is right after them.
unfoldable pub head_sound : List ℕ → Bool
head_sound s =
    nat_le (entry_count s) entry_limit
    && (nat_le (head_size (entry_count s)) (length s) && entries_sound (entry_count s) 0 (head_size (entry_count s)) s)

-- A frame body: identifier (four bytes), length code, nonce (12), data.
abbrev pub identifier_part : List ℕ → List ℕ
identifier_part body = part 0 4 body

abbrev pub code_part : List ℕ → List ℕ
code_part body = part 4 1 body

abbrev pub nonce_part : List ℕ → List ℕ
nonce_part body = part 5 12 body

abbrev pub data_part : List ℕ → List ℕ
data_part body = drop 17 body

-- A legal identifier, a length code, and data of the coded length, nothing more.
unfoldable pub is_frame : List ℕ → Bool
is_frame body =
    nat_lt (number (identifier_part body)) identifier_limit
    && (is_code (number (code_part body)) && (length body) == 17 + coded_length (number (code_part body)))
