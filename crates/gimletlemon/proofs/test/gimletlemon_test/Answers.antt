-- `gimletlemon::test::gimletlemon_test` meets its contract: what test answers is told.
use Rattle.semantics.specs.Answer.{test_refusal, test_yes}
use Rattle.gimletlemon.proofs.Telling.{passed_on}
use Rattle.gimletlemon.proofs.test.gimletlemon_test.Goals as goal

pub returns : goal.returns
returns c = let e = c.test.ensures in record { position_after = passed_on test_refusal e c.tell_test.ensures.position_after; enabled_after = passed_on test_yes e c.tell_test.ensures.enabled_after }
