-- `bits::parting::part` meets its contract: where each of the 64 bits comes from, by the five rounds, is computed.
use Rattle.bits.specs.Bytes.{word}
use Rattle.bits.specs.Exchange.{source}
use Rattle.bits.specs.Strings.{evens}
use Rattle.bits.proofs.Exchange.{gathered, rearranged_twice, word_rearranged}
use Rattle.bits.proofs.parting.part.Goals as goal

pub returns : goal.returns
unfolding word evens source gathered
returns c =
    let neighbours = c.exchange-neighbours.ensures in
    let pairs = c.exchange-pairs.ensures in
    let nibbles = c.exchange-nibbles.ensures in
    let bytes = c.exchange-bytes.ensures in
    word_rearranged 64 (rearranged_twice neighbours (rearranged_twice pairs (rearranged_twice nibbles (rearranged_twice bytes c.exchange.ensures))))
