-- `numbers::number::operate` meets its contract: two operands with values go to `binary`, and any other pair has none.
use mathlib.Core.Option.{bind}
use Rattle.std.proofs.Common.{rules}
use Rattle.numbers.proofs.number.operate.Goals as goal

pub returns-in_err-x : goal.returns-in_err-x
unfolding bind
returns-in_err-x c = search rules

pub returns-in_err-y : goal.returns-in_err-y
unfolding bind
returns-in_err-y c = search rules

pub returns : goal.returns
unfolding bind
returns c = search (rules, c.in_ok-x.was, c.in_ok-y.was)
