-- `moving::begins::move_begins` meets its contract: the loop of `Moving`, a row or a place at a time.
use native.Mathlib.Omega.{arith}
use Rattle.changes.proofs.Rows.{key_told, old_told, count_told}
use Rattle.moving.proofs.Moving.{moving-start, row_old, moving-row, place-enough, moving-place}
use Rattle.moving.proofs.begins.move_begins.Goals as goal

pub loop-p-init : goal.loop-p-init
loop-p-init c = moving-start c.row_place-p.ensures

pub overflow_add-old : goal.overflow_add-old
overflow_add-old c = let o = (let g = c.requires.fits.few in let h = c.loop-p-test.true in let t = c.if-row_place-p.true in row_old c.loop-p.invariant c.requires c.loop-p-test.true c.row_place.ensures (omega arith)) in omega (arith, old_told c.args.rows.now c.loop-p.row)

pub loop-p-preserved-then-row_place-p : goal.loop-p-preserved-then-row_place-p
loop-p-preserved-then-row_place-p c = let g = c.requires.fits.few in let h = c.loop-p-test.true in let t = c.if-row_place-p.true in rw (← old_told c.args.rows.now c.loop-p.row) (moving-row c.loop-p.invariant c.requires c.loop-p-test.true c.row_place.ensures (omega arith) (rw (← key_told c.args.rows.now c.loop-p.row) at c.width_of.ensures.0) (rw (← count_told c.args.rows.now c.loop-p.row) at c.entry_words-new.ensures) t)

pub overflow_sub-begins : goal.overflow_sub-begins
overflow_sub-begins c = place-enough c.loop-p.invariant c.requires c.loop-p-test.true c.row_place.ensures c.if-row_place-p.false

pub loop-p-preserved : goal.loop-p-preserved
loop-p-preserved c = moving-place c.loop-p.invariant c.requires c.loop-p-test.true c.row_place.ensures c.if-row_place-p.false
