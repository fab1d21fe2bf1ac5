-- `elements::bind::bind_variable` meets its contract: the rules of `Binding`.
use Rattle.elements.proofs.Binding.{binding}
use Rattle.elements.proofs.bind.bind_variable.Goals as goal

pub returns-then-variables-n : goal.returns-then-variables-n
returns-then-variables-n c = search binding

pub returns-then-marks-n : goal.returns-then-marks-n
returns-then-marks-n c = search binding

pub returns : goal.returns
returns c = search binding
