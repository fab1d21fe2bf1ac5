-- `rewriting::write::write_listed` meets its contract: the loop of `Writing`, a row at a time.
use Rattle.rewriting.proofs.Writing.{Writing}
use Rattle.rewriting.proofs.write.write_listed.Given as goal

abbrev pub invariant-loop-i : goal.invariant-loop-i
invariant-loop-i l = Writing l.net l.places l.marking l.rows l.n l.initial.next l.i l.from l.at l.next
