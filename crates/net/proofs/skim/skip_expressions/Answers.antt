-- `net::skim::skip_expressions` meets its contract: the loop of `Loops` over the reader of an expression.
use Rattle.net.proofs.Loops.{looping}
use Rattle.net.proofs.skim.skip_expressions.Goals as goal

pub loop-preserved : goal.loop-preserved
loop-preserved c = search looping

pub returns : goal.returns
returns c = search looping

pub returns-in_err-next : goal.returns-in_err-next
returns-in_err-next c = search looping
