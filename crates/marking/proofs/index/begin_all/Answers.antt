-- `marking::index::begin_all` meets its contract: what was written stays while the next is written.
use Rattle.marking.proofs.Rising.{begun-none, begun_turn, begun-end}
use native.Mathlib.Omega.{arith}
use Rattle.marking.proofs.index.begin_all.Goals as goal

pub loop-p-init : goal.loop-p-init
loop-p-init c = begun-none _ _ _

pub loop-p-preserved : goal.loop-p-preserved
loop-p-preserved c = begun_turn c.loop-p.invariant (omega arith) (omega arith)

pub returns : goal.returns
returns c = begun-end c.loop-p.invariant (omega arith)
