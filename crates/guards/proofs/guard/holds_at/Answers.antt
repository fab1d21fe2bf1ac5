-- `guards::guard::holds_at` meets its contract.
use mathlib.Core.Path.{ap}
use Rattle.semantics.specs.Answer.{option_of}
use Rattle.guards.proofs.Guarding.{conjuncts, left-none}
use Rattle.guards.proofs.guard.holds_at.Goals as goal

pub offset_bounds-net-at : goal.offset_bounds-net-at
offset_bounds-net-at c = search conjuncts

pub bounds-net-at : goal.bounds-net-at
bounds-net-at c = search conjuncts

pub overflow_add-at : goal.overflow_add-at
overflow_add-at c = search conjuncts

pub evaluate-left-requires : goal.evaluate-left-requires
evaluate-left-requires c = search conjuncts

pub evaluate-right-requires : goal.evaluate-right-requires
evaluate-right-requires c = search conjuncts

pub returns : goal.returns
returns c = search conjuncts

pub returns-in_default : goal.returns-in_default
returns-in_default c = left-none _ _ _ c.requires c.evaluate-left.ensures (ap option_of c.in_default.is)
