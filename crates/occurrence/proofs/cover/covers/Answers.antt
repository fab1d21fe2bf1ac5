-- `occurrence::cover::covers` meets its contract: the loop of `Covering` over keys; a key that repeats the one before it is covered as that one.
use mathlib.Core.Path.{sym, ◌∙◌}
use Rattle.occurrence.proofs.Covering.{covering_start, covering_again, covering_short, covering_turn, covering_end}
use Rattle.occurrence.proofs.cover.covers.Goals as goal
use Rattle.occurrence.proofs.cover.covers.Goals.{then-not-repeats+else-spot-total_of, else-not-repeats}

pub loop-i-init : goal.loop-i-init
loop-i-init c = covering_start _ _ _ _ _ _

pub returns-then-spot-total_of : goal.returns-then-spot-total_of
returns-then-spot-total_of c = let p = c.requires in covering_short c.loop-i.invariant c.loop-i-test.true p.keys_len_bound.1 p.every c.spot_of-spot.ensures c.total_of.ensures c.if-spot-total_of.true

pub loop-i-preserved : goal.loop-i-preserved
loop-i-preserved c =
    let p = c.requires in
    let i = c.loop-i.invariant in
    let h = c.loop-i-test.true in
    elim c.if-not-repeats.branch [ then-not-repeats+else-spot-total_of w ↦ covering_turn i h p.keys_len_bound.1 p.every w.spot_of-spot.ensures w.total_of.ensures w.if-spot-total_of.false | else-not-repeats w ↦ covering_again i h p.keys_len_bound.1 (sym c.repeats.ensures ∙ w.if-not-repeats.false) ]

pub returns : goal.returns
returns c = covering_end c.loop-i.invariant c.loop-i-test.false
