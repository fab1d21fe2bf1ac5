-- `elements::solve::all_bound` meets its contract: the words ahead have only bound variables where all words have.
use mathlib.Core.Path.{◌≡◌}
use Rattle.elements.specs.Binds.{all_bound}
use Rattle.elements.specs.Bound.{marked}
use Rattle.elements.proofs.solve.all_bound.Given as goal

abbrev pub invariant-loop-at : goal.invariant-loop-at
invariant-loop-at l = all_bound l.words (marked l.marks) l.at l.to ≡ all_bound l.words (marked l.marks) l.from l.to
