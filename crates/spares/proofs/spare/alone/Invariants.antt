-- `spares::spare::alone` meets its contract: each turn passes the arc itself or one with another ARC word.
use Rattle.spares.specs.Spare.{IsAlone}
use Rattle.spares.proofs.spare.alone.Given as goal

abbrev pub invariant-loop-i : goal.invariant-loop-i
invariant-loop-i l = IsAlone l.net l.inputs l.k l.i
