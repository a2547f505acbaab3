-- `named_edition::sealing::seal` meets its contract.
use mathlib.Core.Path.{refl, ap, ◌∙◌}
use Rattle.refusals.specs.Outcome.{outcome}
use Rattle.refusals.specs.Refusals.{Answer}
use Rattle.machine.specs.declared.edition.Edition.{Edition}
use Rattle.grain128aead.specs.Calls as calls
use Rattle.named_edition.proofs.Calls.{sealed_unknown, sealed-known, demand1_sealing, sealing}
use Rattle.named_edition.proofs.NamedRows.{chosen-known, chosen-unknown}
use Rattle.named_edition.proofs.sealing.seal.Goals as goal

pub returns-in_err-edition : goal.returns-in_err-edition
returns-in_err-edition c =
    let a = c.args in
    let u = chosen-unknown a.edition c.by_number.ensures c.ok_or.ensures.value c.in_err-edition.was c.from_residual.result c.from_residual.ensures.1 in
    let left = ap (λ (r : Answer). outcome r a.out.now) u.1 ∙ sealed_unknown a.edition a.key.now a.nonce.now a.ad.now a.message.now a.out.now u.0 in
    rw left (record { sealed = refl; demand1 = demand1_sealing _ _ _ _ _ _; demand2 = sealing _ _ _ _ _ _ })

pub returns : goal.returns
returns c =
    let a = c.args in
    let n = chosen-known a.edition c.by_number.ensures c.ok_or.ensures.value c.in_ok-edition.was in
    let left =
    c.seal.ensures.sealed
    ∙ ap (λ (v : Edition). calls.sealed v a.key.now a.nonce.now a.ad.now a.message.now a.out.now) n.1
    ∙ sealed-known a.edition a.key.now a.nonce.now a.ad.now a.message.now a.out.now n.0 in
    rw left (record { sealed = refl; demand1 = demand1_sealing _ _ _ _ _ _; demand2 = sealing _ _ _ _ _ _ })
