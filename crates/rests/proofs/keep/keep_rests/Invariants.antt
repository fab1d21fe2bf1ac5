-- `rests::keep::keep_rests` meets its contract: the loop keeps that the numbers of the transitions so far stand in the table.
use Rattle.rests.specs.Rests.{RestsKept}
use Rattle.rests.proofs.keep.keep_rests.Given as goal

abbrev pub invariant-loop-t : goal.invariant-loop-t
invariant-loop-t l = RestsKept l.net l.places l.transitions l.parts l.t l.rests
