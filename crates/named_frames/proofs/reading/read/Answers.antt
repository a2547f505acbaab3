-- `named_frames::reading::read` meets its contract.
use mathlib.Core.Path.{refl, ap, ◌∙◌}
use native.Mathlib.Omega.{arith}
use Rattle.bits.specs.Bytes.{Bytes}
use Rattle.refusals.specs.Refusals.{Answer}
use Rattle.refusals.specs.Outcome.{outcome}
use Rattle.machine.specs.declared.edition.Edition.{Edition}
use Rattle.frames.specs.Calls as calls
use Rattle.named_frames.proofs.Calls.{read_unknown, read_known, demand1_reading, reads}
use Rattle.named_edition.proofs.NamedRows.{chosen-known, chosen-unknown}
use Rattle.named_frames.proofs.reading.read.Goals.{After-by_number}
use Rattle.named_frames.proofs.reading.read.Goals as goal

is-bytes : (k : After-by_number) → Bytes k.args.field.now
is-bytes k i = omega (arith, k.type_inv.field i)

pub returns-in_err-edition : goal.returns-in_err-edition
returns-in_err-edition c =
    let a = c.args in
    let u = chosen-unknown a.edition c.by_number.ensures c.ok_or.ensures.value c.in_err-edition.was c.from_residual.result c.from_residual.ensures.1 in
    let left = ap (λ (r : Answer). outcome r a.out.now) u.1 ∙ read_unknown a.edition a.key.now a.nonce.now a.identifier a.code a.field.now a.out.now u.0 in
    rw left (record { read = refl; demand1 = demand1_reading _ _ _ _ _ _ _; promises = reads _ _ _ _ _ _ _ (is-bytes (goal.at.returns-in_err-edition c).After-by_number) })

pub returns : goal.returns
returns c =
    let a = c.args in
    let n = chosen-known a.edition c.by_number.ensures c.ok_or.ensures.value c.in_ok-edition.was in
    let left =
    c.read.ensures.read
    ∙ ap (λ (v : Edition). calls.read v a.key.now a.nonce.now a.identifier a.code a.field.now a.out.now) n.1
    ∙ read_known a.edition a.key.now a.nonce.now a.identifier a.code a.field.now a.out.now n.0 in
    rw left (record { read = refl; demand1 = demand1_reading _ _ _ _ _ _ _; promises = reads _ _ _ _ _ _ _ (is-bytes (goal.at.returns c).After-by_number) })
