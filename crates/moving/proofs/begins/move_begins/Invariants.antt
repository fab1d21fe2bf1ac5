-- `moving::begins::move_begins` meets its contract: the loop of `Moving`, a row or a place at a time.
use Prim.Native.Nat.{◌+◌, ◌-◌}
use lib.ListN.{length}
use Rattle.changes.specs.Tables.{keys_told, olds_told, counts_told}
use Rattle.moving.proofs.Moving.{Moving}
use Rattle.moving.proofs.begins.move_begins.Given as goal

abbrev pub invariant-loop-p : goal.invariant-loop-p
invariant-loop-p l = Moving l.net l.places (keys_told l.rows) (olds_told l.rows) (counts_told l.rows) l.n l.initial.begins l.begins l.row l.p l.old l.new

abbrev pub decreases-loop-p : goal.decreases-loop-p
decreases-loop-p l = (l.n - l.row) + (length l.places + 1 - l.p)
