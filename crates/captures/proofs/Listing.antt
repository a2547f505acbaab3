-- Every frame is listed, each once.
-- Assumes nothing.
use Rattle.std.proofs.Common.{◌≡◌, ℕ, zero, suc, ◌+◌, ◌≤◌, List, [], ◌∷◌, ◌++◌, map, length, drop, sym, refl, ap, ◌∙◌, ap₂, append_assoc, append-nil, le_refl, zero-add, arith, length-append, drop_at}
use mathlib.Core.List.{map-append}
use Rattle.std.specs.Prelude.{Ok}
use Rattle.captures.specs.declared.Part.{Part}
use Rattle.captures.specs.Content.{Content, none, frame, group, head_size_of, bodies_size, section_size, head, bodies, written, Inside, frames_from, frames_of}
use Rattle.captures.specs.Walk.{sound, walk_capture}
use Rattle.captures.specs.Calls.{count_of}
use Rattle.captures.specs.Listing.{leaves, Piece, part_in, head_at, frame_at, pieces_from, frames_among, Fill, Apart, bytes_at, EveryFrame}
use Rattle.captures.proofs.Places.{here, behind}
use Rattle.captures.proofs.Sizes.{frame-size, length-head, length-written}
use Rattle.captures.proofs.ReadBack.{legal-found}
use Rattle.captures.proofs.Numbered.{found_is, found-past, found_all}
use Rattle.captures.proofs.Apart.{EachLong, each_append, numbered-once}

-- There are as many frames as leaves, and they have the leaves' bytes.
pub length-frames : (place : ℕ) (c : Content) → length (frames_from place c) ≡ length (leaves c)
unfolding frames_from leaves
length-frames place none = refl
length-frames place (frame body d) = ap suc (length-frames (place + length body) d)
length-frames place (group b d) =
    simp length-append (omega (arith, length-frames (place + head_size_of b) b, length-frames (place + section_size b) d))

frames-bytes : (c : Content) (place : ℕ) (s rest : List ℕ) → drop place s ≡ bodies c ++ rest → map (bytes_at s) (frames_from place c) ≡ leaves c
unfolding frames_from leaves bodies
frames-bytes none place s rest e = refl
frames-bytes (frame body d) place s rest e =
    let f = e ∙ append_assoc body (bodies d) rest in
    ap₂ ◌∷◌ (here place (length body) s body _ refl f) (frames-bytes d (place + length body) s rest (behind place (length body) s body _ refl f))
frames-bytes (group b d) place s rest e =
    let f = e ∙ append_assoc (written b) (bodies d) rest in
    map-append (bytes_at s) (frames_from (place + head_size_of b) b) _
    ∙ ap₂ ◌++◌
    (frames-bytes b (place + head_size_of b) s (bodies d ++ rest) (behind place (head_size_of b) s (head b) _ (length-head b) (f ∙ append_assoc (head b) (bodies b) _)))
    (frames-bytes d (place + section_size b) s rest (behind place (section_size b) s (written b) _ (length-written b) f))

-- No two overlap.
apart-append : (from mid to : ℕ) (ps qs : List Part) → Apart from mid ps → Apart mid to qs → Apart from to (ps ++ qs)
unfolding Apart
apart-append from mid to [] [] h k = omega arith
apart-append from mid to [] (q ∷ qs) h k = (omega arith, k.1)
apart-append from mid to (p ∷ ps) qs h k = (h.0, apart-append (p.start + p.size) mid to ps qs h.1 k)

pub frames-apart : (c : Content) (from place to : ℕ) → from ≤ place → place + bodies_size c ≡ to → Apart from to (frames_from place c)
unfolding frames_from bodies_size Apart
frames-apart none from place to h e = omega arith
frames-apart (frame body d) from place to h e = (h, frames-apart d (place + length body) (place + length body) to (le_refl _) (omega arith))
frames-apart (group b d) from place to h e =
    apart-append from (place + section_size b) to (frames_from (place + head_size_of b) b) _
    (frames-apart b from (place + head_size_of b) (place + section_size b) (omega arith) (omega arith))
    (frames-apart d (place + section_size b) (place + section_size b) to (le_refl _) (omega arith))

-- Each has a byte or more.
frames_long : (levels place : ℕ) (c : Content) → Inside levels c → EachLong (frames_from place c)
unfolding frames_from Inside
frames_long levels place none h = tt
frames_long levels place (frame body d) h = (omega (arith, frame-size body h.0), frames_long levels (place + length body) d h.1)
frames_long zero place (group b d) h = absurd h
frames_long (suc levels) place (group b d) h =
    each_append _ (frames_from (place + head_size_of b) b) _ (frames_long levels (place + head_size_of b) b h.1) (frames_long (suc levels) (place + section_size b) d h.2)

-- They are the frames among the pieces, and the pieces fill the section.
among-append : (ps qs : List Piece) → frames_among (ps ++ qs) ≡ frames_among ps ++ frames_among qs
unfolding frames_among
among-append [] qs = refl
among-append (head_at p ∷ ps) qs = among-append ps qs
among-append (frame_at p ∷ ps) qs = ap (λ (r : List Part). p ∷ r) (among-append ps qs)

frames_among_lem : (place : ℕ) (c : Content) → frames_among (pieces_from place c) ≡ frames_from place c
unfolding frames_among pieces_from frames_from
frames_among_lem place none = refl
frames_among_lem place (frame body d) = ap₂ ◌∷◌ refl (frames_among_lem (place + length body) d)
frames_among_lem place (group b d) =
    among-append (pieces_from (place + head_size_of b) b) _ ∙ ap₂ ◌++◌ (frames_among_lem (place + head_size_of b) b) (frames_among_lem (place + section_size b) d)

fill-append : (from mid to : ℕ) (ps qs : List Piece) → Fill from mid ps → Fill mid to qs → Fill from to (ps ++ qs)
unfolding Fill
fill-append from mid to [] qs h k = rw h k
fill-append from mid to (p ∷ ps) qs h k = (h.0, fill-append (from + (part_in p).size) mid to ps qs h.1 k)

pieces-fill : (c : Content) (place to : ℕ) → place + bodies_size c ≡ to → Fill place to (pieces_from place c)
unfolding pieces_from bodies_size Fill
pieces-fill none place to e = omega arith
pieces-fill (frame body d) place to e = (refl, pieces-fill d (place + length body) to (omega arith))
pieces-fill (group b d) place to e = (
  refl,
  fill-append (place + head_size_of b) (place + section_size b) to (pieces_from (place + head_size_of b) b) _
      (pieces-fill b (place + head_size_of b) (place + section_size b) (omega arith)) (pieces-fill d (place + section_size b) to (omega arith)),
)

pub every_frame : EveryFrame
unfolding Fill frames_among
every_frame s c h w =
    let e : walk_capture s ≡ sound c = ap walk_capture w ∙ legal-found c h in
    let n = length-frames (0 + head_size_of c) c in
    let size : length s ≡ section_size c = ap length w ∙ length-written c in
    let z = zero-add (head_size_of c) in
    let apart = frames-apart c 0 (0 + head_size_of c) (length s) (omega arith) (omega arith) in
    record {
      counts = ap count_of e ∙ ap Ok n;
      finds = rw (← n) (found_all s c e);
      past = λ number k. found-past s c e number (omega arith);
      bytes = frames-bytes c (0 + head_size_of c) s [] (rw (z, w) (drop_at (head c) (bodies c) (head_size_of c) (length-head c) ∙ sym (append-nil (bodies c))));
      once = λ m n p f g.
          numbered-once 0 (length s) (frames_of 0 c) apart (frames_long 5 (0 + head_size_of c) c h.inside) m n p (sym (found_is s c e m) ∙ f) (sym (found_is s c e n) ∙ g);
      apart = apart;
      frames = rw z (frames_among_lem (head_size_of c) c);
      fills = (refl, rw z (pieces-fill c (head_size_of c) (length s) (omega arith)));
    }
