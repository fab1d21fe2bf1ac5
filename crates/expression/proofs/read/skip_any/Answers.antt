-- `expression::read::skip_any` meets its contract: what `pass` answers, fifteen words being left.
use Rattle.expression.proofs.Skipping.{skipping}
use Rattle.expression.proofs.read.skip_any.Goals as goal

pub returns-in_err-next : goal.returns-in_err-next
returns-in_err-next c = search skipping

pub returns : goal.returns
returns c = search skipping
