-- `patch::entry::write_values` meets its contract: the loop of `Writing` over the digits of the code, the last one first.
use Rattle.patch.proofs.Writing.{Filling}
use Rattle.patch.proofs.entry.write_values.Given as goal

abbrev pub invariant-loop-j : goal.invariant-loop-j
invariant-loop-j l = Filling l.initial.next l.at l.n l.code l.j l.rest l.next
