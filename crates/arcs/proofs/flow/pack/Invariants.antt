-- `arcs::flow::pack` meets its contract: the loop of `Packing`.
use Rattle.arcs.proofs.Packing.{Packing}
use Rattle.arcs.proofs.flow.pack.Given as goal

abbrev pub invariant-loop-i : goal.invariant-loop-i
invariant-loop-i l = Packing l.net l.binding l.ranges l.n l.at l.i l.next l.coded
