-- `gimletlemon::nets::gimletlemon_check_bytes` meets its contract: what check answers on bytes is told.
use Rattle.gimletlemon.proofs.Telling.{passed_on}
use Rattle.semantics.specs.Answer.{check_refusal}
use Rattle.gimletlemon.proofs.nets.gimletlemon_check_bytes.Goals as goal

pub returns : goal.returns
returns c = passed_on check_refusal c.check_bytes.ensures c.tell_check.ensures
