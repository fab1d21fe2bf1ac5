-- `net::skim::skip_arc` meets its contract: the rules of `Structures`, one for each return.
use Rattle.std.proofs.lemmas.Result.{err_from_is_err_and}
use native.Mathlib.Omega.{arith}
use Rattle.net.proofs.Structures.{passing, arc_nowhere, arc-coefficient, arc-components}
use Rattle.net.proofs.skim.skip_arc.Goals as goal

pub returns-in_err-place : goal.returns-in_err-place
returns-in_err-place c = search passing

pub returns-then-widths-place : goal.returns-then-widths-place
returns-then-widths-place c = arc_nowhere _ _ _ _ c.take.ensures c.in_ok-place.was (omega arith)

pub returns-in_err-next : goal.returns-in_err-next
returns-in_err-next c =
    let p = err_from_is_err_and c.from_residual-in_err-next.result c.from_residual-in_err-next.ensures.1 in
    rw (p.1, p.2) (arc-coefficient _ _ _ _ c.take.ensures c.in_ok-place.was (omega arith) c.skip_expression.ensures.0 c.in_err-next.was)

pub returns : goal.returns
returns c = arc-components _ _ _ _ c.take.ensures c.in_ok-place.was (omega arith) c.skip_expression.ensures.0 c.in_ok-next.was c.skip_expressions.ensures
