-- `guards::guard::guard_passes` meets its contract: without conjuncts the loop of `guard_holds` would end at once.
use mathlib.Core.Path.{sym, ◌∙◌}
use native.Mathlib.Omega.{arith}
use borrow.Author.Tests.{eqb-true}
use Rattle.guards.proofs.Guarding.{guarding_start, guarding_end}
use Rattle.guards.proofs.guard.guard_passes.Goals as goal

pub returns-then-is_empty : goal.returns-then-is_empty
returns-then-is_empty c =
    let e = eqb-true _ 0 (sym c.if-is_empty.ensures) in
    c.if-is_empty.true ∙ guarding_end (guarding_start _ _ _) (omega arith)
