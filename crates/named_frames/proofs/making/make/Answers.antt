-- `named_frames::making::make` meets its contract.
use mathlib.Core.Path.{refl, ap, ◌∙◌}
use Rattle.refusals.specs.Refusals.{Answer}
use Rattle.refusals.specs.Outcome.{outcome}
use Rattle.machine.specs.declared.edition.Edition.{Edition}
use Rattle.frames.specs.Calls as calls
use Rattle.named_frames.proofs.Calls.{made_unknown, made-known, demand1_making, makes}
use Rattle.named_edition.proofs.NamedRows.{chosen-known, chosen-unknown}
use Rattle.named_frames.proofs.making.make.Goals as goal

pub returns-in_err-edition : goal.returns-in_err-edition
returns-in_err-edition c =
    let a = c.args in
    let u = chosen-unknown a.edition c.by_number.ensures c.ok_or.ensures.value c.in_err-edition.was c.from_residual.result c.from_residual.ensures.1 in
    let left = ap (λ (r : Answer). outcome r a.out.now) u.1 ∙ made_unknown a.edition a.key.now a.nonce.now a.identifier a.message.now a.out.now u.0 in
    rw left (record { made = refl; demand1 = demand1_making _ _ _ _ _ _; demand2 = makes _ _ _ _ _ _ })

pub returns : goal.returns
returns c =
    let a = c.args in
    let n = chosen-known a.edition c.by_number.ensures c.ok_or.ensures.value c.in_ok-edition.was in
    let left =
    c.make.ensures.made
    ∙ ap (λ (v : Edition). calls.made v a.key.now a.nonce.now a.identifier a.message.now a.out.now) n.1
    ∙ made-known a.edition a.key.now a.nonce.now a.identifier a.message.now a.out.now n.0 in
    rw left (record { made = refl; demand1 = demand1_making _ _ _ _ _ _; demand2 = makes _ _ _ _ _ _ })
