-- `spares::spare::leave_out` meets its contract: each turn passes an arc that is spared, or copies the position of another.
use Rattle.spares.proofs.Sparing.{left-start, left_spared, left_turn}
use Rattle.spares.proofs.spare.leave_out.Goals as goal
use Rattle.spares.proofs.spare.leave_out.Goals.{then-not-spared, else-not-spared}

pub loop-j-init : goal.loop-j-init
loop-j-init c = left-start c.requires.inputs_len_bound.1

pub loop-j-preserved : goal.loop-j-preserved
loop-j-preserved c =
    let L = c.loop-j.invariant in
    let h = c.loop-j-test.true in
    elim c.if-not-spared.branch [ then-not-spared w ↦ rw (w.rest-is, w.n-is) (left_turn L h c.requires.inputs_len_bound.0) | else-not-spared w ↦ rw (w.rest-is, w.n-is) (left_spared L h c.is_spared-spared.ensures w.if-not-spared.false) ]
