-- `grainv1::adding::add_places` meets its contract.
use mathlib.Core.Path.{ap, ◌∙◌}
use Prim.Native.Nat.{ℕ, ◌-◌, ◌*◌, ◌/◌, ◌^◌}
use lib.Bits.{bit_xor}
use lib.ListN.{length}
use Rattle.bits.specs.Bytes.{word, bytes}
use Rattle.bits.proofs.Added.{places-added}
use Rattle.grainv1.proofs.adding.add_places.Goals as goal

pub returns : goal.returns
returns c =
    let s = c.args.s.now in
    c.spell.ensures ∙ ap (λ (k : ℕ). bytes k (word (8 * k) (bit_xor c.number.result (c.args.places / 2 ^ (64 - 8 * length s))))) c.requires.2
    ∙ places-added s c.number.result c.args.places c.requires.1 c.number.ensures
