-- `rows::compare::compare_row` meets its contract: the loop of `Alike`.

use Rattle.rows.proofs.Alike.{Alike}
use Rattle.rows.proofs.compare.compare_row.Given as goal

abbrev pub invariant-loop-j : goal.invariant-loop-j
invariant-loop-j l = Alike l.buffer l.at l.row l.j
