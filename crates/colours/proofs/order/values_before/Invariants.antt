-- `colours::order::values_before` meets its contract: the loop of `Comparing`.
use Rattle.colours.proofs.Comparing.{WordsLeft}
use Rattle.colours.proofs.order.values_before.Given as goal

abbrev pub invariant-loop-i : goal.invariant-loop-i
invariant-loop-i l = WordsLeft l.words l.n l.a l.b l.i
