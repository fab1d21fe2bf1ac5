-- `gimletlemon::nets::gimletlemon_check` meets its contract: what check answers is told.
use Rattle.gimletlemon.proofs.Telling.{passed_on}
use Rattle.semantics.specs.Answer.{check_refusal}
use Rattle.gimletlemon.proofs.nets.gimletlemon_check.Goals as goal

pub returns : goal.returns
returns c = passed_on check_refusal c.check.ensures c.tell_check.ensures
