-- `net::skim::skip_one` meets its contract: the rules of `Structures`, one for each return.
use Rattle.net.proofs.Structures.{passing}
use Rattle.net.proofs.skim.skip_one.Goals as goal

pub returns-in_err-take-in_default : goal.returns-in_err-take-in_default
returns-in_err-take-in_default c = search passing

pub returns-in-5 : goal.returns-in-5
returns-in-5 c = search passing

pub returns-in-6 : goal.returns-in-6
returns-in-6 c = search passing

pub returns-in_ok-take-in_default : goal.returns-in_ok-take-in_default
returns-in_ok-take-in_default c = search passing
