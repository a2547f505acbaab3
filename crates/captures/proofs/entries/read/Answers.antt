-- `captures::entries::read` meets its contract.
use Rattle.std.proofs.Common.{◌≡◌, refl, sym, arith}
use Rattle.captures.specs.Layout.{number_at}
use Rattle.captures.proofs.Chunks.{number_read, number_byte}
use Rattle.captures.proofs.Reading.{other}
use Rattle.captures.proofs.entries.read.Goals as goal
use Rattle.captures.proofs.entries.read.Goals.{in-0, in-1}

pub returns-in_default : goal.returns-in_default
returns-in_default c =
    let e = c.args.e.now in
    sym (other (number_at 0 1 e) (number_at 1 3 e) (omega (arith, c.in_default, number_byte 0 e (omega (arith, c.told-e)) (c.fits-e 0))))

pub returns : goal.returns
returns c =
    let e = c.args.e.now in
    let size = number_read 1 3 e c.number-size.result (omega arith) c.number-size.ensures in
    let byte = number_byte 0 e (omega (arith, c.told-e)) (c.fits-e 0) in
    elim c.match-e-offset0.branch [
      | in-0 w ↦ let zero : number_at 0 1 e ≡ 0 = omega (arith, byte) in rw (zero, size, w.kind-is) refl
      | in-1 w ↦ let one : number_at 0 1 e ≡ 1 = omega (arith, byte) in rw (one, size, w.kind-is) refl
    ]
