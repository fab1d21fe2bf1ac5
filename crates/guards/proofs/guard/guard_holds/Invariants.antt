-- `guards::guard::guard_holds` meets its contract: the loop of `Guarding`.
use Rattle.guards.proofs.Guarding.{Guarding}
use Rattle.guards.proofs.guard.guard_holds.Given as goal

abbrev pub invariant-loop-at : goal.invariant-loop-at
invariant-loop-at l = Guarding l.net l.binding l.ats l.at-index
