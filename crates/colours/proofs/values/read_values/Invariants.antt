-- `colours::values::read_values` meets its contract: the loop of `Valuing`.
use Rattle.colours.proofs.Valuing.{Passing}
use Rattle.colours.proofs.values.read_values.Given as goal

abbrev pub invariant-loop-i : goal.invariant-loop-i
invariant-loop-i l = Passing l.words l.net l.n l.from l.at l.i
