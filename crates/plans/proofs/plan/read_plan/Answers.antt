-- `plans::plan::read_plan` meets its contract: the parts that are lent are those that were read into the table.
use Prim.Native.Nat.{◌+◌, ◌-◌}
use native.Mathlib.Omega.{arith}
use Rattle.plans.proofs.Faults.{plan-read}
use Rattle.plans.proofs.plan.read_plan.Goals as goal

pub returns : goal.returns
returns c =
    let b = c.args.base in
    let t = c.in_ok-t.t in
    plan-read _ _ _ t c.in_ok-t.end c.in_ok-t.ensures c.plan_fault-fault.result (b + 32 - b) (16 + t.conjuncts - 16) (24 + t.elements - 24) (omega arith) (omega arith) (omega arith) c.plan_fault-fault.ensures
