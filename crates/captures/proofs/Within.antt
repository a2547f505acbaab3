-- The frames that are found lie in the capture, and their numbers are small.
-- Assumes nothing.
use Rattle.std.proofs.Common.{◌≡◌, ℕ, zero, suc, ◌+◌, ◌^◌, ◌<◌, ◌≤◌, true, List, [], ◌∷◌, map, length, take, drop, sym, refl, ap, ◌∙◌, mod-eq_of_lt, arith, length-drop, lt-ltb}
use native.Mathlib.Decide.{ℕ_discrete}
use lib.Seq.{take-append-le, drop-append-le}
use Rattle.std.specs.Prelude.{Ok, Err}
use Rattle.std.specs.List.{AllByRecursion}
use Rattle.refusals.specs.Signed.{capped}
use Rattle.captures.specs.declared.Part.{Part}
use Rattle.captures.specs.Answers.{Found}
use Rattle.captures.specs.Layout.{capture_limit, depth_limit, entry_count, head_size, size_at, offset_at, entries_sound, is_frame}
use Rattle.captures.specs.Content.{Content, none, frame, group, head_size_of, Inside, frames_of}
use Rattle.captures.specs.Walk.{Walked, broken, sound, walk_capture}
use Rattle.captures.specs.Calls.{count_of, frames, numbered, found_in, found, told, start_of, size_of, following, following_word}
use Rattle.captures.specs.Listing.{leaves, bytes_at, FoundInside, NothingPast}
use Rattle.captures.proofs.Places.{length_part}
use Rattle.captures.proofs.Finds.{entry-sound, head-found}
use Rattle.captures.proofs.Heads.{within}
use Rattle.captures.proofs.Sizes.{section_size_lem, frames-found}
use Rattle.captures.proofs.ReadBack.{capture_found, read_back}
use Rattle.captures.proofs.Apart.{each_append, numbered-ends}
use Rattle.captures.proofs.Listing.{frames-apart, every_frame}

-- Of a list of parts: the number of one that is there, and what holds of its bytes.
numbered_few : (ps : List Part) (n : ℕ) (p : Part) → numbered ps n ≡ Ok p → n < length ps
unfolding numbered
numbered_few [] n p e = let z : ◌≡◌ {A = ℕ} 0 1 = cc in absurd (omega arith)
numbered_few (q ∷ ps) zero p e = omega arith
numbered_few (q ∷ ps) (suc n) p e = omega (arith, numbered_few ps n p e)

abbrev EachFrame : List (List ℕ) → Type 0
EachFrame = AllByRecursion (λ b. is_frame b ≡ true)

leaves-frames : (levels : ℕ) (c : Content) → Inside levels c → EachFrame (leaves c)
unfolding leaves Inside
leaves-frames levels none h = tt
leaves-frames levels (frame body d) h = (h.0, leaves-frames levels d h.1)
leaves-frames zero (group b d) h = absurd h
leaves-frames (suc levels) (group b d) h = each_append _ (leaves b) (leaves d) (leaves-frames levels b h.1) (leaves-frames (suc levels) d h.2)

numbered-frame : (bytes : Part → List ℕ) (ps : List Part) (n : ℕ) (p : Part) → EachFrame (map bytes ps) → numbered ps n ≡ Ok p → is_frame (bytes p) ≡ true
unfolding numbered
numbered-frame bytes [] n p h e = let z : ◌≡◌ {A = ℕ} 0 1 = cc in absurd (omega arith)
numbered-frame bytes (q ∷ ps) zero p h e =
    let same : q ≡ p = cc in
    rw (← same) h.0
numbered-frame bytes (q ∷ ps) (suc n) p h e = numbered-frame bytes ps n p h.1 e

-- Of a capture where a frame is found: it has a content, and the frame is among its frames.
pub record Among (s : List ℕ) (n : ℕ) (p : Part) : Type 0 where
  pub content : Content
  pub walked : walk_capture s ≡ sound content
  pub listed : numbered (frames_of 0 content) n ≡ Ok p

pub among : (s : List ℕ) (n : ℕ) (p : Part) → found s n ≡ Ok p → Among s n p
among s n p e = go (walk_capture s) refl e
  where
    go : (w : Walked) → walk_capture s ≡ w → found_in w n ≡ Ok p → Among s n p
    go (broken r) f e = let z : ◌≡◌ {A = ℕ} 0 1 = cc in absurd (omega arith)
    go (sound c) f e = record { content = c; walked = f; listed = e }

-- Its number is below the limit of captures, and it ends in the capture.
found_few : (s : List ℕ) (n : ℕ) (p : Part) → found s n ≡ Ok p → n < capture_limit
found_few s n p e =
    let a = among s n p e in
    let h = capture_found s a.content a.walked in
    omega (arith, numbered_few (frames_of 0 a.content) n p a.listed, frames-found depth_limit 0 s a.content h.1, h.0)

found-ends : (s : List ℕ) (n : ℕ) (p : Part) → found s n ≡ Ok p → p.start + p.size ≤ length s
found-ends s n p e =
    let a = among s n p e in
    let c = a.content in
    let size = section_size_lem depth_limit s c (capture_found s c a.walked).1 in
    numbered-ends 0 (length s) (frames_of 0 c) n p (frames-apart c 0 (0 + head_size_of c) (length s) (omega arith) (omega arith)) a.listed

pub found_inside : FoundInside
found_inside s n p is_bytes e =
    let a = among s n p e in
    let c = a.content in
    let r = (read_back s c is_bytes).0 a.walked in
    let bodies = (every_frame s c r.0 r.1).bytes in
    record {
      inside = found-ends s n p e;
      size = length_part p.start p.size s (found-ends s n p e);
      body = numbered-frame (bytes_at s) (frames_of 0 c) n p (rw bodies (leaves-frames 5 c r.0.inside)) a.listed;
    }

-- Of sound entries each body ends in the section.
bodies-inside : (left j place : ℕ) (s : List ℕ) → entries_sound left j place s ≡ true → (k : ℕ) → j ≤ k → k < j + left → offset_at k s + size_at k s ≤ length s
bodies-inside zero j place s e k h less = absurd (omega arith)
bodies-inside (suc left) j place s e k h less =
    let a = entry-sound left j place s e in
    elim (ℕ_discrete j k) [
      | yes same ↦ rw (← same) (omega (arith, a.offset, within left (suc j) (place + size_at j s) s a.behind))
      | no other ↦ bodies-inside left (suc j) (place + size_at j s) s a.behind k (omega arith) (omega arith)
    ]

pub nothing_past : NothingPast
nothing_past s e =
    let h = head-found s e in
    record {
      entries = λ k less. omega (arith, h.fits);
      bodies = λ k less. bodies-inside (entry_count s) 0 (head_size (entry_count s)) s h.entries k (omega arith) (omega arith);
      parts = λ at n fits behind.
          ap (take n) (drop-append-le at s behind (omega arith)) ∙ take-append-le n (drop at s) behind (rw length-drop (omega arith));
    }

-- It has a next number in 64 bits.
pub following_fits : (s : List ℕ) (n : ℕ) (f : Found) → f ≡ found s n → following_word n f ≡ following n f
following_fits s n (Ok p) e = mod-eq_of_lt (omega (arith, found_few s n p (sym e)))
following_fits s n (Err r) e = refl

-- Counts and places fit a signed number.
count_fits : (n : ℕ) → n ≤ capture_limit → capped (Ok n) ≡ Ok n
count_fits n h = simp (lt-ltb n (2 ^ 63) (omega (arith, h)))

pub frames_fits : (s : List ℕ) → capped (frames s) ≡ frames s
frames_fits s = go (walk_capture s) refl
  where
    go : (w : Walked) → walk_capture s ≡ w → capped (count_of w) ≡ count_of w
    go (broken r) e = refl
    go (sound c) e =
        let h = capture_found s c e in
        count_fits (length (frames_of 0 c)) (omega (arith, frames-found depth_limit 0 s c h.1, h.0))

told_fits : (number : Part → ℕ) → ((p : Part) → number p ≤ p.start + p.size) → (s : List ℕ) (n : ℕ) → capped (told number (found s n)) ≡ told number (found s n)
told_fits number small s n = go (found s n) refl
  where
    go : (f : Found) → found s n ≡ f → capped (told number f) ≡ told number f
    go (Ok p) e =
        let a = among s n p e in
        count_fits (number p) (omega (arith, small p, found-ends s n p e, (capture_found s a.content a.walked).0))
    go (Err r) e = refl

pub start_fits : (s : List ℕ) (n : ℕ) → capped (start_of (found s n)) ≡ start_of (found s n)
start_fits = told_fits (λ p. p.start) (λ p. omega arith)

pub size_fits : (s : List ℕ) (n : ℕ) → capped (size_of (found s n)) ≡ size_of (found s n)
size_fits = told_fits (λ p. p.size) (λ p. omega arith)
