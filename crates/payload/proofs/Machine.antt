-- The machine's laws at the state that start-up makes.
-- Assumes nothing.
use mathlib.Core.Path.{◌≡◌, ap, ◌∙◌}
use mathlib.Core.Bool.{Bool, false}
use mathlib.Core.List.{List}
use Prim.Native.Nat.{ℕ, ◌+◌, ◌*◌}
use native.Mathlib.Omega.{arith}
use lib.Dec.{lit<}
use lib.ListN.{length, get_or}
use Rattle.bits.specs.Bit.{◌⊻◌}
use Rattle.bits.specs.Strings.{shift}
use Rattle.machine.specs.declared.edition.Edition.{Edition}
use Rattle.machine.specs.Machine.{run}
use Rattle.machine.specs.Laws as machine
use Rattle.machine.proofs.Machine.{run-sized}
use Rattle.machine.proofs.Clocks as clocks
use Rattle.machine.proofs.Accumulator as accumulator
use Rattle.startup.specs.Editions.{bits_in, running_from, initialised}
use Rattle.startup.proofs.Order.{length-bits_in}
use Rattle.startup.proofs.Sizes.{initialised-sized}
use Rattle.payload.specs.AuthenticatedString.{header}
use Rattle.payload.specs.Payload.{begun}
use Rattle.payload.specs.Laws.{States, preoutput_at, Clocks, Enciphered, ClosedForm}
use Rattle.payload.proofs.Payload.{ciphertext-bits}

pub states : States
states ed key nonce s k n = run-sized 64 (initialised ed key nonce) s (lit< tt) (initialised-sized ed key nonce k n)

pub machine_closed_form : ClosedForm
machine_closed_form ed key nonce s k n = accumulator.machine_closed_form 64 (initialised ed key nonce) s (lit< tt) (initialised-sized ed key nonce k n)

-- Clock k after start-up, counted from the first one.
at-clock : (ed : Edition) (key nonce : List ℕ) (t k : ℕ) → t ≡ running_from ed + k → machine.preoutput_at (initialised ed key nonce) k ≡ preoutput_at ed key nonce t
unfolding preoutput_at
at-clock ed key nonce t k e = ap (machine.preoutput_at (initialised ed key nonce)) (omega arith)

pub clocks_from_start : (ed : Edition) (key nonce : List ℕ) (s : List Bool) (m : Bool) → Clocks ed key nonce s m
clocks_from_start ed key nonce s m =
    let c = clocks.clocks (initialised ed key nonce) s m in
    record {
      keystream = c.keystream ∙ at-clock ed key nonce _ (2 * length s) (omega arith);
      register = c.register ∙ ap (shift (run (initialised ed key nonce) s).authenticator.register) (at-clock ed key nonce _ (2 * length s + 1) (omega arith));
    }

pub enciphered : Enciphered
unfolding begun
enciphered ed key nonce ad message j h =
    ap (λ (s : List Bool). get_or s j false) (ciphertext-bits ed key nonce ad message)
    ∙ clocks.keystream _ (initialised ed key nonce) (header ed ad) (bits_in ed message) j (omega (arith, length-bits_in ed message))
    ∙ ap (λ (b : Bool). get_or (bits_in ed message) j false ⊻ b) (at-clock ed key nonce _ (2 * (length (header ed ad) + j)) (omega arith))
