-- Whole byte strings with their keystream added, from any starting state.
-- Assumes nothing.
use mathlib.Core.Path.{◌≡◌, sym, ap, ◌∙◌}
use mathlib.Core.Bool.{Bool}
use mathlib.Core.List.{List}
use Prim.Native.Nat.{ℕ, ◌*◌}
use lib.ListN.{length}
use Rattle.bits.specs.Bytes.{Bytes}
use Rattle.bits.specs.Strings.{◌⊞◌}
use Rattle.bits.proofs.Flip.{Flips}
use Rattle.generators.specs.Generator.{Generator, every}
use Rattle.generators.proofs.Spaced.{length-every}
use Rattle.generators.proofs.Keystream.{length-added, added_twice}
use Rattle.preoutput.specs.Functions.{grain128}
use Rattle.machine.specs.declared.edition.Edition.{Edition}
use Rattle.machine.specs.Machine.{State, crypt}
use Rattle.machine.proofs.Machine.{crypt-sum, length-crypt}
use Rattle.startup.specs.Editions.{bits_in, bytes_in, flip_in}
use Rattle.startup.proofs.Order.{length-bits_in, bits_in-bytes_in, length-flip_in, flip_in-bytes, flip_between, flipping}
use Rattle.strings.specs.Strings.{with_keystream}
use Rattle.strings.proofs.OverBytes.{crypt_bytes}

-- The keystream added twice, with flips between, leaves these alone.
with_keystream_between : (e : Edition) (p : ℕ) (g : Generator Bool) (s : List ℕ) (d : List Bool) → Flips s d → with_keystream e p g (flip_in e (with_keystream e p g s) d) ≡ flip_in e s d
with_keystream_between e p g s d h =
    ap (λ (n : ℕ). flip_in e (flip_in e (with_keystream e p g s) d) (every grain128 p (8 * n) g)) (length-flip_in e (with_keystream e p g s) d ∙ length-added grain128 (flipping e) p g s)
    ∙ flip_between e s (every grain128 p (8 * length s) g) d (length-every grain128 p (8 * length s) g) h

module _ (e : Edition) (st : State) where
  -- The bits of the bytes that come out.
  pub bits_in-crypt_bytes : (sealing : Bool) (s : List ℕ) → bits_in e (crypt_bytes e sealing st s) ≡ crypt sealing st (bits_in e s)
  unfolding crypt_bytes
  bits_in-crypt_bytes sealing s = bits_in-bytes_in e (length s) (crypt sealing st (bits_in e s)) (length-crypt sealing st (bits_in e s) ∙ length-bits_in e s)

  -- They are the bytes that go in, with the keystream added.
  pub crypted-bytes : (sealing : Bool) (s : List ℕ) → bytes_in e (length s) (crypt sealing st (bits_in e s)) ≡ with_keystream e 2 st.generator s
  crypted-bytes sealing s =
      ap (bytes_in e (length s)) (crypt-sum sealing st (bits_in e s) ∙ ap (λ (n : ℕ). bits_in e s ⊞ every grain128 2 n st.generator) (length-bits_in e s))
      ∙ flip_in-bytes e s (every grain128 2 (8 * length s) st.generator)

  pub crypt_bytes-added : (sealing : Bool) (s : List ℕ) → crypt_bytes e sealing st s ≡ with_keystream e 2 st.generator s
  unfolding crypt_bytes
  crypt_bytes-added sealing s = crypted-bytes sealing s

  -- So that twice gives them back, whichever way each goes.
  pub crypt_bytes_twice : (first second : Bool) (s : List ℕ) → Bytes s → crypt_bytes e second st (crypt_bytes e first st s) ≡ s
  crypt_bytes_twice first second s h =
      ap (crypt_bytes e second st) (crypt_bytes-added first s)
      ∙ crypt_bytes-added second (with_keystream e 2 st.generator s)
      ∙ added_twice grain128 (flipping e) 2 st.generator s h

-- A string that is enciphered, flipped and deciphered, from two states with one generator, is flipped.
pub crypt_bytes_between : (e : Edition) (st st' : State) (first second : Bool) (s : List ℕ) (d : List Bool) → st.generator ≡ st'.generator → Flips s d
    → crypt_bytes e second st' (flip_in e (crypt_bytes e first st s) d) ≡ flip_in e s d
crypt_bytes_between e st st' first second s d same h =
    ap (λ (t : List ℕ). crypt_bytes e second st' (flip_in e t d)) (crypt_bytes-added e st first s)
    ∙ crypt_bytes-added e st' second (flip_in e (with_keystream e 2 st.generator s) d)
    ∙ ap (λ (g : Generator Bool). with_keystream e 2 g (flip_in e (with_keystream e 2 st.generator s) d)) (sym same)
    ∙ with_keystream_between e 2 st.generator s d h
