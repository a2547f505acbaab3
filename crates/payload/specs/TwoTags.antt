-- Two tags of one edition under one key and nonce (document 02, C-23). The pairs of AD and message are any two: their lengths may differ, or be the same,
-- and so may the pairs. No limit on lengths is asked.
use Rattle.std.specs.Prelude.{◌≡◌, ◌↔◌, Bool, List, ℕ, length}
use Rattle.bits.specs.Strings.{◌⊞◌, zeros}
use Rattle.machine.specs.declared.edition.Edition.{Edition}
use Rattle.machine.specs.Laws as machine
use Rattle.key.specs.Sizes.{key_size, nonce_size}
use Rattle.startup.specs.Editions.{bits_in, initialised}
use Rattle.payload.specs.AuthenticatedString.{authenticated}
use Rattle.payload.specs.Payload.{tag}
use Rattle.payload.specs.Laws.{flipped_registers}

-- The registers at all positions where the authenticated strings of two pairs differ, the shorter one continued with zeros, added up.
unfoldable pub differing_registers : Edition → (key nonce : List ℕ) → (ad message ad' message' : List ℕ) → List Bool
differing_registers e key nonce ad message ad' message' =
    machine.differing_registers 64 (initialised e key nonce) (authenticated e ad message) (authenticated e ad' message')

-- For an edition, a key and a nonce and any two pairs of AD and message: their tags are equal exactly when the registers at all positions where the two
-- strings differ, the shorter continued with zeros, add up to zero.
abbrev pub EqualTags : Type 0
EqualTags =
    (e : Edition) (key nonce ad message ad' message' : List ℕ) → length key ≡ key_size → length nonce ≡ nonce_size
    → (tag e key nonce ad message ≡ tag e key nonce ad' message') ↔ (differing_registers e key nonce ad message ad' message' ≡ zeros 64)

-- The sum of the two tags is the sum of these registers.
abbrev pub TagSum : Type 0
TagSum =
    (e : Edition) (key nonce ad message ad' message' : List ℕ) → length key ≡ key_size → length nonce ≡ nonce_size
    → bits_in e (tag e key nonce ad message) ⊞ bits_in e (tag e key nonce ad' message') ≡ differing_registers e key nonce ad message ad' message'

-- Where the lengths are the same, these registers are those at the data positions whose bits differ.
abbrev pub EqualLengths : Type 0
EqualLengths =
    (e : Edition) (key nonce ad message ad' message' : List ℕ) → length key ≡ key_size → length nonce ≡ nonce_size
    → length ad ≡ length ad' → length message ≡ length message'
    → differing_registers e key nonce ad message ad' message' ≡ flipped_registers e key nonce ad (bits_in e ad ⊞ bits_in e ad') (bits_in e message ⊞ bits_in e message')
