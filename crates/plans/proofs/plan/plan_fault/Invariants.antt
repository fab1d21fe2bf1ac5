-- `plans::plan::plan_fault` meets its contract: no element so far is at fault.
use Rattle.plans.specs.Fitness.{plan_parts}
use Rattle.plans.proofs.Faults.{Planned}
use Rattle.plans.proofs.plan.plan_fault.Given as goal

abbrev pub invariant-loop-p : goal.invariant-loop-p
invariant-loop-p l = Planned l.words l.widths (plan_parts l.variables l.inputs l.conjuncts) l.elements l.at l.marks l.p-index
