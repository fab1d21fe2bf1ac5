-- `numbers::number::equal` meets its contract.
use Rattle.word.proofs.Read.{same_bits}
use Rattle.numbers.proofs.number.equal.Goals as goal

pub returns : goal.returns
returns c = same_bits _ _ c.ranges.x c.ranges.y
