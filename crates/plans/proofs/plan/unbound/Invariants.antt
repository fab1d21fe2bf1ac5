-- `plans::plan::unbound` meets its contract: the variables so far are bound.
use mathlib.Core.Path.{◌≡◌}
use mathlib.Core.Bool.{true}
use Rattle.semantics.specs.Plan.{every_below}
use Rattle.elements.specs.Bound.{marked}
use Rattle.plans.proofs.plan.unbound.Given as goal

abbrev pub invariant-loop-n : goal.invariant-loop-n
invariant-loop-n l = every_below l.n (marked l.marks) ≡ true
