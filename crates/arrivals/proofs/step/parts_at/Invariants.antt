-- `arrivals::step::parts_at` meets its contract: the loop keeps `Parting`.
use Rattle.arrivals.proofs.Parting.{Parting}
use Rattle.arrivals.proofs.step.parts_at.Given as goal

abbrev pub invariant-loop-i : goal.invariant-loop-i
invariant-loop-i l = Parting l.net l.variables l.at l.n l.i l.next l.parts
