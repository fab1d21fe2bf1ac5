-- `net::skim::skip_ranges` meets its contract: the loop of `Loops` over the reader of a RANGE word.
use Rattle.net.proofs.Loops.{looping}
use Rattle.net.proofs.Structures.{passing}
use Rattle.net.proofs.skim.skip_ranges.Goals as goal

pub returns-in_err-take : goal.returns-in_err-take
returns-in_err-take c = search passing

pub loop-preserved : goal.loop-preserved
loop-preserved c = search passing

pub returns : goal.returns
returns c = search looping
