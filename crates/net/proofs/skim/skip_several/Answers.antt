-- `net::skim::skip_several` meets its contract: the loop of `Tables` that fills a part of a table, over the reader of one structure.
use mathlib.Core.Path.{refl}
use Rattle.std.proofs.lemmas.Result.{err_from_is_err_and}
use native.Mathlib.Omega.{arith}
use Rattle.net.proofs.Tables.{filled_goes, filled_stops, filled_end}
use Rattle.net.proofs.skim.skip_several.Goals as goal

pub returns-in_err-at : goal.returns-in_err-at
returns-in_err-at c =
    let p = err_from_is_err_and c.from_residual.result c.from_residual.ensures.1 in
    rw (p.1, p.2, c.in_err-at.was) (record { same = refl; before = record { same = refl } })

pub returns-in_err-next : goal.returns-in_err-next
returns-in_err-next c = let p = err_from_is_err_and c.from_residual-in_err-next.result c.from_residual-in_err-next.ensures.1 in rw (p.1, p.2, c.in_ok-at.was) (filled_stops c.loop-i.invariant (omega arith) c.skip_one.ensures _ c.in_err-next.was)

pub loop-i-preserved : goal.loop-i-preserved
loop-i-preserved c = filled_goes c.loop-i.invariant (omega arith) c.skip_one.ensures (omega arith) c.in_ok-next.was

pub returns : goal.returns
returns c = rw c.in_ok-at.was (filled_end c.loop-i.invariant (omega arith))
