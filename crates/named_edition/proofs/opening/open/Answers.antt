-- `named_edition::opening::open` meets its contract.
use mathlib.Core.Path.{refl, ap, ◌∙◌}
use native.Mathlib.Omega.{arith}
use Rattle.bits.specs.Bytes.{Bytes}
use Rattle.refusals.specs.Outcome.{outcome}
use Rattle.refusals.specs.Refusals.{Answer}
use Rattle.machine.specs.declared.edition.Edition.{Edition}
use Rattle.grain128aead.specs.Calls as calls
use Rattle.named_edition.proofs.Calls.{opened_unknown, opened-known, demand1_opening, demand2, demand3, substitution}
use Rattle.named_edition.proofs.NamedRows.{chosen-known, chosen-unknown}
use Rattle.named_edition.proofs.opening.open.Goals.{After-by_number}
use Rattle.named_edition.proofs.opening.open.Goals as goal

is-bytes : (k : After-by_number) → Bytes k.args.input.now
is-bytes k i = omega (arith, k.type_inv.input i)

pub returns-in_err-edition : goal.returns-in_err-edition
returns-in_err-edition c =
    let a = c.args in
    let u = chosen-unknown a.edition c.by_number.ensures c.ok_or.ensures.value c.in_err-edition.was c.from_residual.result c.from_residual.ensures.1 in
    let left = ap (λ (r : Answer). outcome r a.out.now) u.1 ∙ opened_unknown a.edition a.key.now a.nonce.now a.ad.now a.input.now a.out.now u.0 in
    rw left (record { opened = refl; demand1 = demand1_opening _ _ _ _ _ _; demand2 = demand2 _ _ _ _ _ _ (is-bytes (goal.at.returns-in_err-edition c).After-by_number); demand3 = demand3 _ _ _ _ _ _; substitution = substitution _ _ _ _ _ _ (is-bytes (goal.at.returns-in_err-edition c).After-by_number) })

pub returns : goal.returns
returns c =
    let a = c.args in
    let n = chosen-known a.edition c.by_number.ensures c.ok_or.ensures.value c.in_ok-edition.was in
    let left =
    c.«open».ensures.opened
    ∙ ap (λ (v : Edition). calls.opened v a.key.now a.nonce.now a.ad.now a.input.now a.out.now) n.1
    ∙ opened-known a.edition a.key.now a.nonce.now a.ad.now a.input.now a.out.now n.0 in
    rw left (record { opened = refl; demand1 = demand1_opening _ _ _ _ _ _; demand2 = demand2 _ _ _ _ _ _ (is-bytes (goal.at.returns c).After-by_number); demand3 = demand3 _ _ _ _ _ _; substitution = substitution _ _ _ _ _ _ (is-bytes (goal.at.returns c).After-by_number) })
