-- `guards::guard::guard_holds` meets its contract: the loop of `Guarding`.
use Rattle.guards.proofs.Guarding.{guarding}
use Rattle.guards.proofs.guard.guard_holds.Goals as goal

pub holds_at-requires : goal.holds_at-requires
holds_at-requires c = search guarding

pub loop-at-init : goal.loop-at-init
loop-at-init c = search guarding

pub returns-then-not-holds_at : goal.returns-then-not-holds_at
returns-then-not-holds_at c = search guarding

pub loop-at-preserved : goal.loop-at-preserved
loop-at-preserved c = search guarding

pub returns : goal.returns
returns c = search guarding
