-- `elements::solve::bind_solve` meets its contract: the rules of `Solving`; a side that binds nothing leaves the marks as they were.
use Rattle.elements.proofs.Solving.{solving}
use Rattle.elements.proofs.solve.bind_solve.Goals as goal

pub returns-in_default : goal.returns-in_default
returns-in_default c = search solving

pub returns-then-relation-ne0 : goal.returns-then-relation-ne0
returns-then-relation-ne0 c = search solving

pub returns-in_default-skip_expression : goal.returns-in_default-skip_expression
returns-in_default-skip_expression c = search solving

pub returns-in_default-skip_expression-2 : goal.returns-in_default-skip_expression-2
returns-in_default-skip_expression-2 c = search solving

pub returns-then-bind_side : goal.returns-then-bind_side
returns-then-bind_side c = search solving

pub returns : goal.returns
returns c = search solving
