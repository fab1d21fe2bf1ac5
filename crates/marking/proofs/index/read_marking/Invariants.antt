-- `marking::index::read_marking` meets its contract: the loop of `Rising`. The table that is lent keeps its length.
use Prim.Native.Nat.{◌-◌}
use lib.ListN.{length}
use Rattle.net.specs.Places.{places_at}
use Rattle.marking.proofs.Rising.{SoFar}
use Rattle.marking.proofs.index.read_marking.Given as goal

abbrev pub invariant-loop-at : goal.invariant-loop-at
invariant-loop-at l = SoFar (places_at l.net l.places) l.words l.begins l.last l.place l.at

abbrev pub decreases-loop-at : goal.decreases-loop-at
decreases-loop-at l = length l.words - l.at
