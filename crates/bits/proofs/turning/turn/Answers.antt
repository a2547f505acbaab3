-- `bits::turning::turn` meets its contract: where each of the 64 bits comes from, by the three rounds, is computed.
use Rattle.bits.specs.Bytes.{word}
use Rattle.bits.specs.Exchange.{source}
use Rattle.bits.proofs.Exchange.{gathered, rearranged_twice, word_rearranged}
use Rattle.bits.proofs.Turned.{eights, turns}
use Rattle.bits.proofs.turning.turn.Goals as goal

pub returns : goal.returns
unfolding word source gathered eights
returns c =
    let neighbours = c.exchange-neighbours.ensures in
    let pairs = c.exchange-pairs.ensures in
    turns c.args.w c.exchange.result (word_rearranged 64 (rearranged_twice neighbours (rearranged_twice pairs c.exchange.ensures)))
