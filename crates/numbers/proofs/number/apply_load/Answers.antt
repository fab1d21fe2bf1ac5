-- `numbers::number::apply_load` meets its contract.
use mathlib.Core.Option.{bind}
use Rattle.std.proofs.Common.{rules}
use Rattle.numbers.proofs.number.apply_load.Goals as goal

pub returns-in_err-x : goal.returns-in_err-x
unfolding bind
returns-in_err-x c = search rules

pub returns : goal.returns
unfolding bind
returns c = search (rules, c.in_ok-x.was)
