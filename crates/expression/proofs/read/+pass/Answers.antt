-- `expression::read::pass` meets its contract: each arm is a rule of `Passing`.
use mathlib.Core.Path.{ap, ◌∙◌}
use Rattle.std.specs.Prelude.{Ok}
use Rattle.expression.proofs.Passing.{load_operand, second_operand, passing}
use Rattle.expression.proofs.read.+pass.Goals as goal

pub returns-in_err-head_at : goal.returns-in_err-head_at
returns-in_err-head_at t c = search passing

pub returns-in_err-second-in-Binary : goal.returns-in_err-second-in-Binary
returns-in_err-second-in-Binary t c = search passing

pub returns-in-Constant : goal.returns-in-Constant
returns-in-Constant t c = search passing

pub returns-in_ok-second-in-Binary : goal.returns-in_ok-second-in-Binary
returns-in_ok-second-in-Binary t c =
    second_operand c.head_at.ensures (c.in_ok-head_at.was ∙ ap Ok c.in-Binary.is) c.pass.ensures c.in_ok-second-in-Binary.was c.pass-in-Binary.ensures

pub returns-in-Load : goal.returns-in-Load
returns-in-Load t c = load_operand c.head_at.ensures (c.in_ok-head_at.was ∙ ap Ok c.in-Load.is) c.pass-in-Load.ensures
