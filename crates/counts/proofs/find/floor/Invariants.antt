-- `counts::find::floor` meets its contract: the bracket of `Ranked` is halved until it holds one entry.
use Prim.Native.Nat.{◌-◌}
use Rattle.colours.specs.Code.{coloured}
use Rattle.counts.proofs.Ranked.{Bracket}
use Rattle.counts.proofs.find.floor.Given as goal

abbrev pub invariant-loop-high : goal.invariant-loop-high
invariant-loop-high l = Bracket l.words l.n l.from l.k (coloured l.n l.code) l.low l.high

abbrev pub decreases-loop-high : goal.decreases-loop-high
decreases-loop-high l = l.high - l.low
