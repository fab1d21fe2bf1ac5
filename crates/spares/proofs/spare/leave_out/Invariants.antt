-- `spares::spare::leave_out` meets its contract: each turn passes an arc that is spared, or copies the position of another.
use Rattle.spares.proofs.Sparing.{Left}
use Rattle.spares.proofs.spare.leave_out.Given as goal

abbrev pub invariant-loop-j : goal.invariant-loop-j
invariant-loop-j l = Left l.net l.places l.inputs l.elements l.rest l.n l.j
