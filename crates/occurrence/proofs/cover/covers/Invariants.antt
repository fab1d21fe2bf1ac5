-- `occurrence::cover::covers` meets its contract: the loop of `Covering` over keys; a key that repeats the one before it is covered as that one.
use Rattle.occurrence.proofs.Covering.{Covering}
use Rattle.occurrence.proofs.cover.covers.Given as goal

abbrev pub invariant-loop-i : goal.invariant-loop-i
invariant-loop-i l = Covering l.net l.places l.keys l.amounts l.marking l.begins l.i
