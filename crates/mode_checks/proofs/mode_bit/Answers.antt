-- `mode_checks::mode_bit` meets its contract.
use native.Mathlib.Omega.{arith}
use Rattle.std.proofs.Common.{rules}
use Rattle.mode_checks.proofs.Modes.{first_mode}
use Rattle.mode_checks.proofs.mode_bit.Goals as goal

pub returns : goal.returns
returns c = first_mode c.args.nonce.now c.first.result _ (omega (arith, c.type_inv.nonce 0)) (search rules) (search rules)
