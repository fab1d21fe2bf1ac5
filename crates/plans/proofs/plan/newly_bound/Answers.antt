-- `plans::plan::newly_bound` meets its contract: one arm for each sort of element.
use Rattle.plans.proofs.Faults.{faults}
use Rattle.plans.proofs.plan.newly_bound.Goals as goal

pub returns-then-inputs-k : goal.returns-then-inputs-k
returns-then-inputs-k c = search faults

pub returns-then-conjuncts-k : goal.returns-then-conjuncts-k
returns-then-conjuncts-k c = search faults

pub returns-else-inputs-k : goal.returns-else-inputs-k
returns-else-inputs-k c = search faults

pub returns-else-conjuncts-k : goal.returns-else-conjuncts-k
returns-else-conjuncts-k c = search faults

pub returns-in-Range : goal.returns-in-Range
returns-in-Range c = search faults
