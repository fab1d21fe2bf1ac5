-- `elements::bind::bind_each` meets its contract: the loop of `Binding`.
use Rattle.elements.proofs.Binding.{Binding}
use Rattle.elements.proofs.bind.bind_each.Given as goal

abbrev pub invariant-loop : goal.invariant-loop
invariant-loop l = Binding l.words l.variables l.initial.marks l.n l.at l.counter l.next l.some l.marks
