-- `plans::plan::unbound` meets its contract: the variables so far are bound.
use mathlib.Core.Path.{refl}
use native.Mathlib.Omega.{arith}
use Rattle.semantics.specs.Plan.{every_below}
use Rattle.plans.proofs.Faults.{bounded_turn, bounded-stop}
use Rattle.plans.proofs.plan.unbound.Goals as goal

pub loop-n-init : goal.loop-n-init
unfolding every_below
loop-n-init c = refl

pub returns-then-not-marks-n : goal.returns-then-not-marks-n
returns-then-not-marks-n c = bounded-stop _ _ _ _ (omega arith) c.if-not-marks-n.true

pub loop-n-preserved : goal.loop-n-preserved
loop-n-preserved c = bounded_turn _ _ c.loop-n.invariant c.if-not-marks-n.false
