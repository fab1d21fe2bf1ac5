-- `plans::plan::plan_fault` meets its contract: no element so far is at fault.
use native.Mathlib.Omega.{arith}
use Rattle.plans.proofs.Faults.{plan_unfit, plan_turn, faults}
use Rattle.plans.proofs.plan.plan_fault.Goals as goal

pub returns-in_default : goal.returns-in_default
returns-in_default c = search faults

pub returns-then-not-newly_bound : goal.returns-then-not-newly_bound
returns-then-not-newly_bound c =
    plan_unfit _ _ _ _ _ c.loop-p.invariant (omega arith) c.take.ensures c.in-Ok.is c.element_of-e.result.sort c.element_of-e.ensures c.newly_bound.ensures c.if-not-newly_bound.true

pub loop-p-preserved : goal.loop-p-preserved
loop-p-preserved c =
    plan_turn _ _ _ _ _ c.loop-p.invariant (omega arith) c.take.ensures c.in-Ok.is c.element_of-e.result.sort c.element_of-e.ensures c.newly_bound.ensures c.if-not-newly_bound.false

pub returns : goal.returns
returns c = search faults
