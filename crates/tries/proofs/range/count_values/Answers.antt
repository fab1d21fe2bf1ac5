-- `tries::range::count_values` meets its contract: `counted` of Ranging.
use Rattle.tries.proofs.Ranging.{counted}
use Rattle.tries.proofs.range.count_values.Goals as goal

pub returns : goal.returns
returns c = counted c.args.range
