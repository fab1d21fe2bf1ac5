-- `kinds::take::in_limits` meets its contract: the second limit is looked at where the first holds.
use Rattle.kinds.proofs.Taking.{tests}
use Rattle.kinds.proofs.take.in_limits.Goals as goal

pub returns-then-low-n : goal.returns-then-low-n
returns-then-low-n c = search tests

pub returns-else-low-n : goal.returns-else-low-n
returns-else-low-n c = search tests
