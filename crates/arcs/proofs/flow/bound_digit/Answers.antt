-- `arcs::flow::bound_digit` meets its contract: the upper bits of a VALUE word are its kind and zeros.
use Rattle.arcs.proofs.Packing.{components}
use Rattle.arcs.proofs.flow.bound_digit.Goals as goal

pub returns-then-w-ne196608 : goal.returns-then-w-ne196608
returns-then-w-ne196608 c = search components

pub returns : goal.returns
returns c = search components
