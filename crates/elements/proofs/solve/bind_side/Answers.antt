-- `elements::solve::bind_side` meets its contract: the rules of `Solving`.
use Rattle.elements.proofs.Solving.{solving}
use Rattle.elements.proofs.solve.bind_side.Goals as goal

pub returns : goal.returns
returns c = search solving
