-- A genuine field with bits flipped behind M, and with bits of M flipped: its parts.
-- Assumes nothing.
use mathlib.Core.Path.{◌≡◌, refl, sym, ap, ap₂, ◌∙◌}
use mathlib.Core.Bool.{Bool}
use mathlib.Core.List.{List, [], ◌∷◌, ◌++◌}
use Prim.Native.Nat.{ℕ, zero, suc, ◌+◌, ◌-◌, ◌*◌, ◌<◌}
use native.Mathlib.Omega.{arith}
use lib.Dec.{lit<}
use lib.ListN.{length, get_or, replicate}
use Rattle.bits.specs.Bytes.{Bytes}
use Rattle.bits.specs.Strings.{zeros}
use Rattle.bits.proofs.Flip.{Flips}
use Rattle.bits.proofs.Packing.{Bytes-append}
use Rattle.machine.specs.declared.edition.Edition.{Edition}
use Rattle.startup.specs.Editions.{flip_in}
use Rattle.startup.proofs.Order.{length-flip_in, bytes_in_are_bytes, flip_in-append}
use Rattle.payload.specs.Sizes.{tag_size}
use Rattle.payload.specs.Payload.{ciphertext, tag, payload}
use Rattle.frame_checks.specs.Layout.{overhead, field_size, announced, sealed_part, filler}
use Rattle.frames.specs.Field.{frame_ad}
use Rattle.frames.specs.Demand3.{Genuine}
use Rattle.frames.proofs.Parts.{joined, joined-sealed, joined-filler, flip_in-none, flipped-behind}
use Rattle.frames.proofs.Field.{fill, sealed, length-sealed, made-joined, made-sealed}

-- Strings of bytes: one byte, zeros, a payload, an AD.
pub one_byte : (m : ℕ) → m < 256 → Bytes (m ∷ [])
one_byte m h zero = h
one_byte m h (suc i) = lit< tt

pub zeros-bytes : (n : ℕ) → Bytes (replicate n 0)
zeros-bytes zero i = lit< tt
zeros-bytes (suc n) zero = lit< tt
zeros-bytes (suc n) (suc i) = zeros-bytes n i

ciphertext-bytes : (e : Edition) (key nonce ad message : List ℕ) → Bytes (ciphertext e key nonce ad message)
unfolding ciphertext
ciphertext-bytes e key nonce ad message = bytes_in_are_bytes e (length message) _

tag-bytes : (e : Edition) (key nonce ad message : List ℕ) → Bytes (tag e key nonce ad message)
unfolding tag
tag-bytes e key nonce ad message = bytes_in_are_bytes e tag_size _

payload-bytes : (e : Edition) (key nonce ad message : List ℕ) → Bytes (payload e key nonce ad message)
unfolding payload
payload-bytes e key nonce ad message = Bytes-append (ciphertext e key nonce ad message) (tag e key nonce ad message) (ciphertext-bytes e key nonce ad message) (tag-bytes e key nonce ad message)

pub ad-bytes : (identifier code : ℕ) → Bytes (frame_ad identifier code)
ad-bytes identifier code zero = omega arith
ad-bytes identifier code (suc zero) = omega arith
ad-bytes identifier code (suc (suc zero)) = omega arith
ad-bytes identifier code (suc (suc (suc zero))) = omega arith
ad-bytes identifier code (suc (suc (suc (suc zero)))) = omega arith
ad-bytes identifier code (suc (suc (suc (suc (suc i))))) = lit< tt

module _ {e : Edition} {key nonce : List ℕ} {identifier code : ℕ} (old : Genuine e key nonce identifier code) where
  -- The true M, and the genuine field's payload and filler.
  abbrev m : ℕ
  m = length old.message

  abbrev s : List ℕ
  s = sealed old.makes

  abbrev z : List ℕ
  z = fill old.makes

  -- ---- behind M

  module _ {field : List ℕ} (d f : List Bool) (long : length d ≡ 8 * length (sealed_part old.field))
      (flipped : field ≡ flip_in e old.field (zeros 8 ++ (d ++ f))) where
    sealed-flips : Flips s d
    sealed-flips = long ∙ ap (λ (t : List ℕ). 8 * length t) (made-sealed old.makes)

    behind-joined : field ≡ joined m (flip_in e s d) (flip_in e z f)
    behind-joined =
        flipped ∙ ap (λ (t : List ℕ). flip_in e t (zeros 8 ++ (d ++ f))) (made-joined old.makes)
        ∙ flipped-behind e m s z d f (one_byte m (omega (arith, old.makes.legal.message_fits))) sealed-flips

    long_sealed : length (flip_in e s d) ≡ m + 8
    long_sealed = length-flip_in e s d ∙ length-sealed old.makes

    pub behind-announced : announced field ≡ m
    behind-announced = ap announced behind-joined

    pub behind-sealed : sealed_part field ≡ flip_in e (sealed_part old.field) d
    behind-sealed =
        ap sealed_part behind-joined ∙ joined-sealed m (flip_in e s d) (flip_in e z f) long_sealed
        ∙ ap (λ (t : List ℕ). flip_in e t d) (sym (made-sealed old.makes))

    pub behind-filler : filler field ≡ flip_in e z f
    behind-filler = ap filler behind-joined ∙ joined-filler m (flip_in e s d) (flip_in e z f) long_sealed

    pub behind-length : length field ≡ length old.field
    behind-length = ap length flipped ∙ length-flip_in e old.field (zeros 8 ++ (d ++ f))

  -- ---- in M

  -- The field is another first byte and what stood behind M.
  pub in_length : (field : List ℕ) (d : List Bool) → length d ≡ 8 → field ≡ flip_in e old.field (d ++ zeros (8 * (length old.field - 1)))
      → field ≡ announced field ∷ (s ++ z)
  in_length field d eight flipped = is ∙ ap (λ (b : ℕ). b ∷ (s ++ z)) (sym (ap announced is))
    where
      single : (t : List ℕ) → length t ≡ 1 → t ≡ get_or t 0 0 ∷ []
      single [] h = absurd (omega arith)
      single (b ∷ []) h = refl
      single (b ∷ c ∷ t) h = absurd (omega arith)

      less : (n : ℕ) → 8 * (suc n - 1) ≡ 8 * n
      less n = omega arith

      behind : 8 * (length old.field - 1) ≡ 8 * length (s ++ z)
      behind = ap (λ (t : List ℕ). 8 * (length t - 1)) (made-joined old.makes) ∙ less (length (s ++ z))

      is : field ≡ get_or (flip_in e (m ∷ []) d) 0 0 ∷ (s ++ z)
      is =
          flipped ∙ ap (λ (t : List ℕ). flip_in e t (d ++ zeros (8 * (length old.field - 1)))) (made-joined old.makes)
          ∙ flip_in-append e (m ∷ []) (s ++ z) d (zeros (8 * (length old.field - 1))) eight
          ∙ ap₂ (λ (x y : List ℕ). x ++ y) (single (flip_in e (m ∷ []) d) (length-flip_in e (m ∷ []) d))
          (flip_in-none e (s ++ z) (8 * (length old.field - 1)) (Bytes-append s z (payload-bytes e key nonce (frame_ad identifier code) old.message) (zeros-bytes (field_size m - (m + overhead)))) behind)
