-- `plans::plan::read_plans` meets its contract: the fault so far is the first of the transitions read so far, and the parts of those that are kept stand
-- before those that are read next.
use Rattle.plans.proofs.Faults.{Reviewing}
use Rattle.plans.proofs.plan.read_plans.Given as goal

abbrev pub invariant-loop-i : goal.invariant-loop-i
invariant-loop-i l = Reviewing l.words l.widths l.n l.at l.i l.next l.begins l.fault l.first l.table
