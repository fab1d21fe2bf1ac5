-- `evaluation::evaluate::evaluate` meets its contract: what `evaluate_at` answers.
use Rattle.evaluation.proofs.Single.{outcomes}
use Rattle.evaluation.proofs.evaluate.evaluate.Goals as goal

pub evaluate_at-requires : goal.evaluate_at-requires
evaluate_at-requires c = search outcomes

pub returns : goal.returns
returns c = search outcomes
