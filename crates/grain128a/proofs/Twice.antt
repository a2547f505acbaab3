-- Without authentication, twice gives the message back.
-- Assumes nothing.
use mathlib.Core.Path.{◌≡◌, sym, ap, ◌∙◌, subst}
use mathlib.Core.List.{List}
use Prim.Native.Nat.{ℕ, ◌*◌, ◌≤◌}
use lib.ListN.{length}
use Rattle.bits.specs.Bytes.{Bytes}
use Rattle.limits.specs.Limits.{message_limit}
use Rattle.generators.proofs.Keystream as keystream
use Rattle.preoutput.specs.Functions.{grain128}
use Rattle.machine.specs.declared.edition.Edition.TheVariants.{First}
use Rattle.startup.proofs.Order.{length-flip_in, flipping}
use Rattle.strings.specs.Strings as strings
use Rattle.untagged.proofs.Crypting as untagged
use Rattle.grain128a.specs.Bits.{flip}
use Rattle.grain128a.specs.StartUp.{warmed}
use Rattle.grain128a.specs.Payload.{with_keystream}
use Rattle.grain128a.specs.Calls.{crypted}
use Rattle.grain128a.specs.Demand2.{LegalUnauthenticated}
use Rattle.grain128a.specs.Twice.{Twice}
use Rattle.grain128a.proofs.StartUp.{every-preoutput}
use Rattle.grain128a.proofs.Demand2.{crypting}

module _ (key nonce : List ℕ) where
  -- The keystream is every pre-output from the warmed generator on.
  pub added : (s : List ℕ) → strings.with_keystream First 1 (warmed key nonce) s ≡ with_keystream key nonce s
  unfolding with_keystream
  added s = ap (flip s) (every-preoutput (8 * length s) (warmed key nonce))

  pub length-added : (s : List ℕ) → length (with_keystream key nonce s) ≡ length s
  unfolding with_keystream
  length-added s = length-flip_in First s _

  added_twice : (s : List ℕ) → Bytes s → with_keystream key nonce (with_keystream key nonce s) ≡ s
  added_twice s b =
      sym (ap (strings.with_keystream First 1 (warmed key nonce)) (added s) ∙ added (with_keystream key nonce s))
      ∙ keystream.added_twice grain128 (flipping First) 1 (warmed key nonce) s b

pub twice : Twice
twice key nonce =
    untagged.twice (LegalUnauthenticated key nonce) (with_keystream key nonce) (crypted key nonce) (crypting key nonce) (length-added key nonce) (added_twice key nonce)
    (λ s t same l. record { common = l.common; message_fits = subst (λ (n : ℕ). n ≤ message_limit) (sym same) l.message_fits })
