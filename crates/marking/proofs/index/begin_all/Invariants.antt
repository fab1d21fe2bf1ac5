-- `marking::index::begin_all` meets its contract: what was written stays while the next is written.
use Rattle.marking.specs.Marked.{Begun}
use Rattle.marking.proofs.index.begin_all.Given as goal

abbrev pub invariant-loop-p : goal.invariant-loop-p
invariant-loop-p l = Begun l.initial.begins l.from l.p l.at l.begins
