-- `occurrence::enabled::enabled_behind` meets its contract: each return is a rule of `Covering`.
use Rattle.occurrence.proofs.Covering.{enabling}
use Rattle.occurrence.proofs.enabled.enabled_behind.Goals as goal

pub returns-then-not-all : goal.returns-then-not-all
returns-then-not-all c = search enabling

pub returns : goal.returns
returns c = search enabling
