-- The parts of a frame's body, and the sample of document 02 (C-19).
use Rattle.std.specs.Prelude.{◌≡◌, ℕ, List, [], ◌∷◌, ◌++◌, replicate}
use Rattle.refusals.specs.declared.Refusal.TheVariants.{PastLastFrame}
use Rattle.std.specs.Prelude.{Ok, Err}
use Rattle.captures.specs.Layout.{number, identifier_part, code_part, nonce_part, data_part}
use Rattle.captures.specs.Content.{part_of}
use Rattle.captures.specs.Calls.{frames, found, body_of}

-- The parts of any frame body put together are the body.
abbrev pub Joined : Type 0
Joined = (body : List ℕ) → identifier_part body ++ (code_part body ++ (nonce_part body ++ data_part body)) ≡ body

-- The sample of document 02: a frame of identifier 0x123, code 0, a nonce of zeros and no data, whose body begins at place 10.
unfoldable pub sample : List ℕ
sample =
    0 ∷ 1 ∷ 0 ∷ 0 ∷ 0 ∷ 0x11 ∷ 0 ∷ 0 ∷ 0 ∷ 0x0A ∷ 0 ∷ 0 ∷ 1 ∷ 0x23 ∷ 0
    ∷ replicate 12 0

pub record Sample : Type 0 where
  pub counts : frames sample ≡ Ok 1
  pub finds : found sample 0 ≡ Ok (part_of 10 17)
  pub identifier : number (identifier_part (body_of sample (found sample 0))) ≡ 0x123
  pub code : number (code_part (body_of sample (found sample 0))) ≡ 0
  pub nonce : nonce_part (body_of sample (found sample 0)) ≡ replicate 12 0
  pub no_data : data_part (body_of sample (found sample 0)) ≡ []
  pub past : found sample 1 ≡ Err PastLastFrame
