-- `offers::lines::put_rows` meets its contract: the loop keeps the lines that are left.
use Prim.Native.Nat.{◌*◌, ◌-◌}
use Rattle.offers.proofs.Bindings.{LinesLeft}
use Rattle.offers.proofs.lines.put_rows.Given as goal

abbrev pub invariant-loop-i : goal.invariant-loop-i
invariant-loop-i l = LinesLeft l.initial.out l.at l.words l.width l.n l.out l.next (l.i * l.width) (l.n - l.i)
