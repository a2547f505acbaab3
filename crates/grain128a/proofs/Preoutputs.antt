-- Which pre-output is what.
-- Assumes nothing.
use mathlib.Core.Path.{◌≡◌, ap, ◌∙◌}
use mathlib.Core.Bool.{Bool, true, false}
use mathlib.Core.List.{List, []}
use Prim.Native.Nat.{ℕ, ◌+◌, ◌*◌, ◌<◌}
use native.Mathlib.Omega.{arith}
use lib.ListN.{length, get_or}
use Rattle.bits.specs.Bit.{◌⊻◌}
use Rattle.bits.specs.Strings.{shift}
use Rattle.bits.proofs.Sum.{get_or-sum}
use Rattle.generators.specs.Strokes.{listed}
use Rattle.generators.proofs.Listed.{length-listed, places-listed}
use Rattle.machine.specs.declared.edition.Edition.TheVariants.{First}
use Rattle.machine.specs.Machine.{run}
use Rattle.machine.specs.Laws.{preoutput_at}
use Rattle.machine.proofs.Clocks.{clocks, keystream}
use Rattle.startup.proofs.Order.{length-bits_in, bits_in-flip_in}
use Rattle.strings.proofs.OverBytes.{crypt_bytes}
use Rattle.strings.proofs.ByteStrings.{bits_in-crypt_bytes}
use Rattle.grain128a.specs.Bits.{bits}
use Rattle.grain128a.specs.StartUp.{warmed, preoutput_of, filled, initialised}
use Rattle.grain128a.specs.Payload.{ciphertext, with_keystream}
use Rattle.grain128a.specs.Laws.{y, Preoutputs}
use Rattle.grain128a.proofs.StartUp.{preoutput-later}

module _ (key nonce : List ℕ) where
  -- The machine's clock k is clock 64 + k after start-up.
  from_64 : (k n : ℕ) → 64 + k ≡ n → preoutput_at (initialised key nonce) k ≡ y key nonce n
  unfolding preoutput_at initialised filled preoutput_of
  from_64 k n e = preoutput-later 64 k (warmed key nonce) ∙ ap (y key nonce) e

  enciphered : (message : List ℕ) (j : ℕ) → j < 8 * length message → get_or (bits (ciphertext key nonce message)) j false ≡ get_or (bits message) j false ⊻ y key nonce (64 + 2 * j)
  unfolding ciphertext crypt_bytes run
  enciphered message j h =
      ap (λ (s : List Bool). get_or s j false) (bits_in-crypt_bytes First (initialised key nonce) true message)
      ∙ keystream true (initialised key nonce) [] (bits message) j (omega (arith, length-bits_in First message))
      ∙ ap (λ (b : Bool). get_or (bits message) j false ⊻ b) (from_64 (2 * (0 + j)) (64 + 2 * j) (omega arith))

  unauthenticated : (message : List ℕ) (j : ℕ) → j < 8 * length message → get_or (bits (with_keystream key nonce message)) j false ≡ get_or (bits message) j false ⊻ y key nonce j
  unfolding with_keystream
  unauthenticated message j h =
      ap (λ (s : List Bool). get_or s j false) (bits_in-flip_in First message (listed (8 * length message) (y key nonce)) (length-listed (8 * length message) (y key nonce)))
      ∙ get_or-sum (bits message) (listed (8 * length message) (y key nonce)) j
      ∙ ap (λ (b : Bool). get_or (bits message) j false ⊻ b) (places-listed (8 * length message) (y key nonce) j h)

  in-accumulator : (j : ℕ) → j < 32 → get_or (initialised key nonce).authenticator.accumulator j false ≡ y key nonce j
  unfolding initialised filled
  in-accumulator = places-listed 32 (y key nonce)

  in-register : (j : ℕ) → j < 32 → get_or (initialised key nonce).authenticator.register j false ≡ y key nonce (32 + j)
  unfolding initialised filled
  in-register = places-listed 32 (λ i. y key nonce (32 + i))

  pub preoutputs : Preoutputs key nonce
  preoutputs = record {
    accumulator = in-accumulator;
    register = in-register;
    keystream = λ s. (clocks (initialised key nonce) s false).keystream ∙ from_64 (2 * length s) _ (omega arith);
    takes = λ s m. (clocks (initialised key nonce) s m).register ∙ ap (shift (run (initialised key nonce) s).authenticator.register) (from_64 (2 * length s + 1) (64 + 2 * length s + 1) (omega arith));
    enciphered = enciphered;
    unauthenticated = unauthenticated;
  }
