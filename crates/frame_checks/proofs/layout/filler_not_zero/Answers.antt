-- `frame_checks::layout::filler_not_zero` meets its contract.
use mathlib.Core.Path.{ap, ◌∙◌}
use mathlib.Core.Bool.{not}
use Prim.Native.Nat.{ℕ, ◌+◌}
use borrow.Author.Rules.{rules}
use borrow.Author.Tests.{tests}
use lib.Dec.{eqb}
use lib.ListN.{drop}
use Rattle.std.proofs.lemmas.Iterator.{YieldsList-from_slice}
use Rattle.std.proofs.lemmas.Iterator.Adapters.{YieldsList-from_skip}
use Rattle.std.proofs.lemmas.Iterator.Search.{any_from_yields_List}
use Rattle.frame_checks.specs.Layout.{overhead, zero_bytes}
use Rattle.frame_checks.proofs.ZeroBytes.{any_lem}
use Rattle.frame_checks.proofs.layout.filler_not_zero.Goals as goal

pub returns : goal.returns
returns c =
    let field = c.args.field.now in
    any_from_yields_List (λ b. not (eqb b 0)) _ _ _ c.any.ensures.ran
    (YieldsList-from_skip (c.announced.result + overhead) (YieldsList-from_slice field cc) c.skip.ensures.count)
    (λ x b q k. search (rules, tests))
    ∙ any_lem (drop (c.announced.result + overhead) field) ∙ ap (λ (m : ℕ). not (zero_bytes (drop (m + overhead) field))) c.announced.ensures
