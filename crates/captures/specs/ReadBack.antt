-- What the walk of a capture finds, and how it breaks (document 02, C-19).
use Rattle.std.specs.Prelude.{◌≡◌, ℕ, ◌≤◌, ◌⊎◌, ◌↔◌, List, []}
use Rattle.bits.specs.Bytes.{Bytes}
use Rattle.refusals.specs.declared.Refusal.{Refusal}
use Rattle.refusals.specs.declared.Refusal.TheVariants.{BrokenCapture, TooDeep}
use Rattle.std.specs.Prelude.{Err}
use Rattle.captures.specs.Layout.{capture_limit, entry_limit}
use Rattle.captures.specs.Content.{Content, entry_count_of, section_size, written, Inside, Legal}
use Rattle.captures.specs.Walk.{walk_capture, broken, sound}
use Rattle.captures.specs.Calls.{frames, found, body_of, following}

-- The walk finds a content exactly where a legal one writes these very bytes; so there is only one.
abbrev pub ReadBack : Type 0
ReadBack = (s : List ℕ) (c : Content) → Bytes s → (walk_capture s ≡ sound c) ↔ (Legal c × (s ≡ written c))

-- The first break is 16 or 18.
abbrev pub Breaks : Type 0
Breaks = (s : List ℕ) (r : Refusal) → walk_capture s ≡ broken r → (r ≡ BrokenCapture) ⊎ (r ≡ TooDeep)

-- A capture that is in order but for its depth is refused with 18.
abbrev pub Deep : Type 0
Deep = (c : Content) (levels : ℕ) → entry_count_of c ≤ entry_limit → Inside levels c → section_size c ≤ capture_limit → (Inside 5 c → ⊥)
    → walk_capture (written c) ≡ broken TooDeep

-- A broken capture hands out nothing: every call gives the refusal, a body is empty, and a step leaves the reader where it is.
pub record HandsOutNothing (s : List ℕ) (r : Refusal) : Type 0 where
  pub counts : frames s ≡ Err r
  pub finds : (number : ℕ) → found s number ≡ Err r
  pub body : (number : ℕ) → body_of s (found s number) ≡ []
  pub stays : (number : ℕ) → following number (found s number) ≡ number

abbrev pub Broken : Type 0
Broken = (s : List ℕ) (r : Refusal) → walk_capture s ≡ broken r → HandsOutNothing s r
