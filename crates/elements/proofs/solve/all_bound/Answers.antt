-- `elements::solve::all_bound` meets its contract: the words ahead have only bound variables where all words have.
use borrow.Author.Tests.{not-true, not-false}
use Rattle.elements.proofs.Solving.{solving}
use Rattle.elements.proofs.solve.all_bound.Goals as goal

pub returns-then-not-passes : goal.returns-then-not-passes
returns-then-not-passes c = search (solving, not-true)

pub loop-at-preserved : goal.loop-at-preserved
loop-at-preserved c = search (solving, not-false)

pub returns : goal.returns
returns c = search solving
