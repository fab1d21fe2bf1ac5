-- `accept::check::check` meets its contract: each return is a rule of `Checking`.
use mathlib.Core.Path.{ap, ◌∙◌}
use Rattle.std.proofs.lemmas.Result.{err_from_is_err_and}
use Rattle.expression.specs.Skip.{forget}
use Rattle.accept.proofs.Checking.{to_all, checked_refused, checked_accepted}
use Rattle.accept.proofs.check.check.Goals as goal

pub returns-in_err-accepted_end : goal.returns-in_err-accepted_end
returns-in_err-accepted_end c =
    let p = err_from_is_err_and c.from_residual.result c.from_residual.ensures.1 in
    rw (p.1, p.2) (checked_refused _ (c.accepted_end.ensures ∙ ap forget (to_all c.args.net.now)) c.in_err-accepted_end.was)

pub returns : goal.returns
returns c = checked_accepted _ (c.accepted_end.ensures ∙ ap forget (to_all c.args.net.now)) c.in_ok-accepted_end.was
