-- `occurrence::cover::total_of` meets its contract: the loop of `Covering` over sums.
use mathlib.Core.Path.{refl}
use native.Mathlib.Omega.{arith}
use Rattle.occurrence.proofs.Covering.{summing_more, summing_same, summing_end}
use Rattle.occurrence.proofs.cover.total_of.Goals as goal
use Rattle.occurrence.proofs.cover.total_of.Goals.{then-keys-j, else-keys-j}

pub loop-j-preserved : goal.loop-j-preserved
loop-j-preserved c =
    let i = c.loop-j.invariant in
    let h = c.loop-j-test.true in
    elim c.if-keys-j.branch [ then-keys-j w ↦ rw w.sum-is (summing_more i h c.requires.1 refl w.if-keys-j.true w.from-sum.ensures (omega (arith, w.from-sum.ensures, c.type_inv.amounts c.loop-j.j))) | else-keys-j w ↦ rw w.sum-is (summing_same i h c.requires.1 refl w.if-keys-j.false) ]

pub returns : goal.returns
returns c = summing_end c.loop-j.invariant c.loop-j-test.false
