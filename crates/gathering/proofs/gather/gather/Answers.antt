-- `gathering::gather::gather` meets its contract: the loop of `Gathering`, a rule for each answer of an arc.
use Rattle.gathering.proofs.Gathering.{gathering}
use Rattle.gathering.proofs.gather.gather.Goals as goal
use Rattle.gathering.proofs.gather.gather.Goals.{in-Tokens, in-Idle}

pub loop-i-preserved : goal.loop-i-preserved
loop-i-preserved c =
    elim c.match-move_at.branch [
      | in-Tokens w ↦ rw (w.keys-is, w.amounts-is, w.n-is) (search gathering)
      | in-Idle w ↦ rw (w.keys-is, w.amounts-is, w.n-is) (search gathering)
    ]

pub returns-in-Outside-clause-gathered : goal.returns-in-Outside-clause-gathered
returns-in-Outside-clause-gathered c = search gathering
