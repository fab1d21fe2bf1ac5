-- `plans::plan::read_plans` meets its contract: the fault so far is the first of the transitions read so far, and the parts of those that are kept stand
-- before those that are read next.
use native.Mathlib.Omega.{arith}
use Rattle.std.proofs.lemmas.Result.{err_from_is_err_and}
use Rattle.plans.proofs.Faults.{reviewing_start, reviewing_goes, reviewing_stops, reviewing_end}
use Rattle.plans.proofs.plan.read_plans.Goals as goal

pub loop-i-init : goal.loop-i-init
loop-i-init c = reviewing_start _ _ _ _ _ _ _

pub returns-in_err-t : goal.returns-in_err-t
returns-in_err-t c =
    let p = err_from_is_err_and c.from_residual.result c.from_residual.ensures.1 in
    rw (p.1, p.2) (reviewing_stops c.loop-i.invariant (omega arith) c.read_plan.ensures _ c.in_err-t.was)

pub loop-i-preserved : goal.loop-i-preserved
loop-i-preserved c =
    rw c.or-fault.ensures (reviewing_goes c.loop-i.invariant (omega arith) c.read_plan.ensures (omega arith) c.base_of.ensures (omega arith) c.read_plan.auto.table c.in_ok-t.was)

pub returns : goal.returns
returns c = reviewing_end c.loop-i.invariant (omega arith)
