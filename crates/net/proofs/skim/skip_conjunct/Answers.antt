-- `net::skim::skip_conjunct` meets its contract: the rules of `Structures`, one for each return.
use Rattle.net.proofs.Structures.{passing, conjunct-right}
use Rattle.net.proofs.skim.skip_conjunct.Goals as goal

pub returns-in_err-take : goal.returns-in_err-take
returns-in_err-take c = search passing

pub returns-in_err-right : goal.returns-in_err-right
returns-in_err-right c = search passing

pub returns : goal.returns
returns c = conjunct-right _ _ _ c.take.ensures c.in_ok-take.was c.skip_expression.ensures.0 c.in_ok-right.was c.skip_expression-2.ensures.0
