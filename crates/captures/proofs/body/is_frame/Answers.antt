-- `captures::body::is_frame` meets its contract: at each `return` the tests that led there decide.
use Rattle.std.proofs.Common.{◌≡◌, ℕ, ◌+◌, eqb, length, sym, ap, ◌∙◌, arith}
use Rattle.length_codes.specs.LengthCodes.{coded_length}
use Rattle.length_codes.proofs.Rule.{table}
use Rattle.captures.specs.Layout.{number, code_part}
use Rattle.captures.proofs.Chunks.{number_read, number_byte}
use Rattle.captures.proofs.FrameTests.{frame-short, frame-identifier, frame-code, frame-coded}
use Rattle.captures.proofs.body.is_frame.Goals as goal
use Rattle.captures.proofs.body.is_frame.Goals.{After-from-code}

pub returns-then-body-lt17 : goal.returns-then-body-lt17
returns-then-body-lt17 c = sym (frame-short c.args.body.now c.if-body-lt17.true)

pub returns-then-number-ge536870912 : goal.returns-then-number-ge536870912
returns-then-number-ge536870912 c =
    let s = c.args.body.now in
    sym (frame-identifier s (rw (number_read 0 4 s c.number.result (omega arith) c.number.ensures) at c.if-number-ge536870912.true))

-- The code is the byte behind the identifier.
code_is : (d : After-from-code) → d.from-code.result ≡ number (code_part d.args.body.now)
code_is d =
    let s = d.args.body.now in
    d.from-code.ensures ∙ sym (number_byte 4 s (omega (arith, d.if-body-lt17.false)) (omega (arith, d.type_inv.body 4)))

pub returns-then-code-gt15 : goal.returns-then-code-gt15
returns-then-code-gt15 c =
    let d = (goal.at.returns-then-code-gt15 c).After-from-code in
    let s = c.args.body.now in
    sym (frame-code s (rw (number_read 0 4 s c.number.result (omega arith) c.number.ensures) at c.if-number-ge536870912.false) (rw (code_is d) at c.if-code-gt15.true))

pub overflow_add-result : goal.overflow_add-result
overflow_add-result c =
    let code = c.from-code.result in
    record { fits = omega (arith, c.coded_length.ensures, table.within code (omega (arith, c.if-code-gt15.false))) }

pub returns : goal.returns
returns c =
    let d = (goal.at.returns c).After-from-code in
    let s = c.args.body.now in
    ap (λ (n : ℕ). eqb (length s) (17 + n)) (c.coded_length.ensures ∙ ap coded_length (code_is d))
    ∙ sym (frame-coded s (rw (number_read 0 4 s c.number.result (omega arith) c.number.ensures) at c.if-number-ge536870912.false) (rw (code_is d) at c.if-code-gt15.false))
