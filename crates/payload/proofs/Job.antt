-- What a job takes.
-- Assumes nothing.
use mathlib.Core.Path.{sym, ap, ◌∙◌}
use mathlib.Core.List.{List}
use Prim.Native.Nat.{ℕ, ◌*◌}
use native.Mathlib.Omega.{arith}
use lib.ListN.{length, replicate, length-append, length-replicate}
use Rattle.bits.specs.Times.{in_turn}
use Rattle.bits.proofs.Times.{in_turn-append, in_turn-replicate}
use Rattle.generators.specs.Generator.{plain}
use Rattle.preoutput.specs.Functions.{grain128}
use Rattle.machine.specs.declared.edition.Edition.{Edition}
use Rattle.startup.specs.StartUp.{loaded}
use Rattle.startup.specs.Editions.{bits_in, initialised}
use Rattle.startup.specs.Laws.{start_up_clocks}
use Rattle.startup.proofs.Clocks as start_up
use Rattle.machine.proofs.Clocks.{run-clocked}
use Rattle.payload.specs.AuthenticatedString.{authenticated}
use Rattle.payload.specs.Job.{string_bits, job_clocks}
use Rattle.payload.specs.Laws.{clocks_of, Clocked, JobGrows}
use Rattle.lengths.proofs.CodedLength.{coded_grows}
use Rattle.payload.proofs.AuthenticatedString.{length-authenticated}

pub clocked : (ed : Edition) (key nonce ad message : List ℕ) → Clocked ed key nonce ad message
unfolding clocks_of job_clocks
clocked ed key nonce ad message =
    let n = 2 * length (authenticated ed ad message) in
    let running = replicate n (plain grain128) in
    let begun = start_up.clocked ed key nonce in
    record {
      count = λ k. omega (arith, length-append (start_up_clocks ed key) running, begun.count k, length-replicate n (plain grain128), length-authenticated ed ad message);
      lead =
          in_turn-append (start_up_clocks ed key) running (loaded (bits_in ed key) (bits_in ed nonce))
          ∙ ap (in_turn running) begun.lead
          ∙ in_turn-replicate n (plain grain128) (initialised ed key nonce).generator
          ∙ sym (run-clocked (initialised ed key nonce) (authenticated ed ad message));
    }

pub job_grows : JobGrows
unfolding string_bits job_clocks
job_grows ed a m a' m' h k =
    let coded = coded_grows a a' h in
    (omega (arith, coded), omega (arith, coded))
