-- `gimletlemon::nets::gimletlemon_split` meets its contract: the part that split hands back is told by where it begins.
use Rattle.gimletlemon.proofs.Telling.{split_short, split_told, split_start}
use Rattle.gimletlemon.proofs.nets.gimletlemon_split.Goals as goal

pub overflow_sub-rest : goal.overflow_sub-rest
overflow_sub-rest c = split_short _ _ _ _ c.split-after.ensures

pub returns : goal.returns
returns c = record { position_after = split_told _ _ _ _ c.split-after.ensures; rest_after = split_start _ _ _ _ c.split-after.ensures }
