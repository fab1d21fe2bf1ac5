-- `gathering::gather::gather` meets its contract: the loop of `Gathering`, a rule for each answer of an arc.
use Rattle.gathering.proofs.Gathering.{Gathering}
use Rattle.gathering.proofs.gather.gather.Given as goal

abbrev pub invariant-loop-i : goal.invariant-loop-i
invariant-loop-i l = Gathering l.net l.places l.binding l.ats l.kept l.initial.keys l.initial.amounts l.i l.n l.keys l.amounts
