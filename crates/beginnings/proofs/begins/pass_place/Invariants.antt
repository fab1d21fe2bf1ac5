-- `beginnings::begins::pass_place` meets its contract: each turn passes one entry of the place.
use Prim.Native.Nat.{◌-◌}
use lib.ListN.{length}
use Rattle.beginnings.specs.Indexed.{Passed}
use Rattle.beginnings.proofs.begins.pass_place.Given as goal

abbrev pub invariant-loop-at : goal.invariant-loop-at
invariant-loop-at l = Passed l.words l.from l.place l.size l.at

abbrev pub decreases-loop-at : goal.decreases-loop-at
decreases-loop-at l = length l.words - l.at
