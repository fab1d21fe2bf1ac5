-- `elements::bind::bind_lone` meets its contract: the rules of `Binding`.
use Rattle.elements.proofs.Binding.{binding}
use Rattle.elements.proofs.bind.bind_lone.Goals as goal

pub returns-in_default : goal.returns-in_default
returns-in_default c = search binding
