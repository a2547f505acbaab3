-- A broken capture: its refusal is 16 or 18, 18 where only the depth is wrong, and it hands out nothing.
-- Assumes nothing.
use Rattle.std.proofs.Common.{◌≡◌, ℕ, zero, suc, ◌+◌, Bool, true, false, cond, ltb, ◌⊎◌, List, length, refl, ap, inl, inr}
use Rattle.refusals.specs.declared.Refusal.{Refusal}
use Rattle.refusals.specs.declared.Refusal.TheVariants.{BrokenCapture, TooDeep}
use Rattle.std.specs.Prelude.{Err}
use Rattle.captures.specs.Layout.{capture_limit, depth_limit, entry_count, head_size, part, kind_at, size_at, head_sound, is_frame}
use Rattle.captures.specs.Content.{Content, none, frame, group, Inside}
use Rattle.captures.specs.Walk.{Walked, broken, sound, before, group_before, walk_body, walk_bodies, walk_section, walk_capture}
use Rattle.captures.specs.Calls.{count_of, found_in, found, body_of, following}
use Rattle.captures.specs.ReadBack.{Breaks, Deep, Broken}
use Rattle.captures.proofs.Finds.{broken-not-sound}
use Rattle.captures.proofs.Writing.{Walks, finds, too_deep, capture_walks}

-- A walk that breaks with 16 or 18 only.
abbrev Two : Walked → Type 0
Two w = (r : Refusal) → w ≡ broken r → (r ≡ BrokenCapture) ⊎ (r ≡ TooDeep)

two_sound : (c : Content) → Two (sound c)
two_sound c r e = absurd (broken-not-sound e refl)

two_broken : Two (broken BrokenCapture)
two_broken r e = inl (cc)

two_before : (put : Content → Content) (w : Walked) → Two w → Two (before put w)
two_before put (broken q) h = h
two_before put (sound c) h = two_sound (put c)

two_body : (walk : List ℕ → Walked) (kind : ℕ) (body : List ℕ) (rest : Walked) → Two (walk body) → Two rest → Two (walk_body walk kind body rest)
two_body walk zero body rest g h = go (is_frame body)
  where
    go : (b : Bool) → Two (cond b (before (frame body) rest) (broken BrokenCapture))
    go true = two_before (frame body) rest h
    go false = two_broken
two_body walk (suc kind) body rest g h = go (walk body) g
  where
    go : (w : Walked) → Two w → Two (group_before w rest)
    go (broken q) g = g
    go (sound c) g = two_before (group c) rest h

two_bodies : (walk : List ℕ → Walked) → ((body : List ℕ) → Two (walk body)) → (left k place : ℕ) (s : List ℕ) → Two (walk_bodies walk left k place s)
unfolding walk_bodies
two_bodies walk g zero k place s = two_sound none
two_bodies walk g (suc left) k place s = two_body walk (kind_at k s) (part place (size_at k s) s) _ (g _) (two_bodies walk g left (suc k) (place + size_at k s) s)

two_section : (levels : ℕ) (s : List ℕ) → Two (walk_section levels s)
unfolding walk_section
two_section zero s = λ r e. inr (cc)
two_section (suc levels) s = go (head_sound s) (two_bodies (walk_section levels) (two_section levels) (entry_count s) 0 (head_size (entry_count s)) s)
  where
    go : (b : Bool) {w : Walked} → Two w → Two (cond b w (broken BrokenCapture))
    go true h = h
    go false h = two_broken

pub breaks : Breaks
unfolding walk_capture
breaks s = go (ltb capture_limit (length s))
  where
    go : (b : Bool) → Two (cond b (broken BrokenCapture) (walk_section depth_limit s))
    go true = two_broken
    go false = two_section depth_limit s

-- In order but for its depth: 18.
pub deep : Deep
unfolding Inside
deep c levels few i small not = go (capture_walks c levels few i small)
  where
    go : {w : Walked} → Walks (Inside depth_limit (group c none)) c w → w ≡ broken TooDeep
    go (finds j e) = absurd (not j.1)
    go (too_deep j e) = e

-- Every call goes by the walk.
pub hands_out_nothing : Broken
hands_out_nothing s r e = record {
  counts = ap count_of e;
  finds = refused;
  body = λ number. ap (body_of s) (refused number);
  stays = λ number. ap (following number) (refused number);
}
  where
    refused : (number : ℕ) → found s number ≡ Err r
    refused number = ap (λ (w : Walked). found_in w number) e
