-- `accept::split::split` meets its contract: the part that is handed back starts where the net at the front ends.
use Rattle.accept.proofs.Checking.{split_part, split_refused}
use Rattle.accept.proofs.split.split.Goals as goal

pub returns-in-Ok : goal.returns-in-Ok
returns-in-Ok c = split_part _ c.front.ensures c.in-Ok.is

pub returns-in-Err : goal.returns-in-Err
returns-in-Err c = rw (c.number.ensures, c.position.ensures) (split_refused _ c.front.ensures c.in-Err.is)
