-- `accept::split::front` meets its contract: no net ends before the word 0.
use mathlib.Core.Path.{ap, ◌∙◌}
use Rattle.expression.specs.Skip.{forget}
use Rattle.accept.proofs.Checking.{to_front, front_ends}
use Rattle.accept.proofs.split.front.Goals as goal

pub returns : goal.returns
returns c = front_ends _ c.accepted_end.result (c.accepted_end.ensures ∙ ap forget (to_front c.args.words.now))
