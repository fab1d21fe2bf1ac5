-- `occurrence::cover::total_of` meets its contract: the loop of `Covering` over sums.
use Rattle.occurrence.proofs.Covering.{Summing}
use Rattle.occurrence.proofs.cover.total_of.Given as goal

abbrev pub invariant-loop-j : goal.invariant-loop-j
invariant-loop-j l = Summing l.keys l.amounts l.key l.j l.sum
