-- `marking::index::read_marking` meets its contract: the loop of `Rising`. The table that is lent keeps its length.
use lib.ListN.{length-set}
use lib.Seq.{get_or-set_same}
use mathlib.Core.Path.{◌∙◌}
use Rattle.std.proofs.lemmas.Result.{err_from_is_err_and}
use Rattle.net.proofs.Placed.{places-length}
use Rattle.marking.proofs.Rising.{so_far_start, entry_ends, marking_refused, marking_unordered, marking_goes, marking_ends}
use native.Mathlib.Omega.{arith}
use Rattle.marking.proofs.index.read_marking.Goals as goal

pub loop-at-init : goal.loop-at-init
loop-at-init c =
    let b = c.args.begins.now in
    let l = c.requires.begins_len in
    so_far_start _ _ _ (length-set b 0 0 ∙ l) (get_or-set_same b 0 0 0 (omega arith))

pub returns-in_err-p : goal.returns-in_err-p
returns-in_err-p c =
    let p = err_from_is_err_and c.from_residual.result c.from_residual.ensures.1 in
    rw (p.1, p.2) (marking_refused c.loop-at.invariant c.loop-at-test.true c.in_err-p.field-0.0 c.in_err-p.ensures)

-- the entry ends after its first word, inside the words
pub overflow_sub-next : goal.overflow_sub-next
overflow_sub-next c = omega (arith, (entry_ends c.loop-at.invariant c.loop-at-test.true c.in_ok-p.ensures).0)

pub overflow_sub-next-in-loop-at : goal.overflow_sub-next-in-loop-at
overflow_sub-next-in-loop-at c = omega (arith, (entry_ends c.loop-at.invariant c.loop-at-test.true c.in_ok-p.ensures).0)

pub rises-requires : goal.rises-requires
rises-requires c =
    let ends = entry_ends c.loop-at.invariant c.loop-at-test.true c.in_ok-p.ensures in
    (c.loop-at.invariant.back, omega arith)

pub returns-then-not-rises : goal.returns-then-not-rises
returns-then-not-rises c = marking_unordered c.loop-at.invariant c.loop-at-test.true c.in_ok-p.ensures c.if-not-rises.ensures

-- its place is one of at most 64
pub overflow_add-p : goal.overflow_add-p
overflow_add-p c =
    let ends = entry_ends c.loop-at.invariant c.loop-at-test.true c.in_ok-p.ensures in
    omega (arith, places-length c.args.net.now c.args.places.now)

pub begin_all-requires : goal.begin_all-requires
begin_all-requires c =
    let ends = entry_ends c.loop-at.invariant c.loop-at-test.true c.in_ok-p.ensures in
    omega (arith, places-length c.args.net.now c.args.places.now)

pub loop-at-smaller : goal.loop-at-smaller
loop-at-smaller c = let ends = entry_ends c.loop-at.invariant c.loop-at-test.true c.in_ok-p.ensures in omega arith

pub loop-at-preserved : goal.loop-at-preserved
loop-at-preserved c =
    let ends = entry_ends c.loop-at.invariant c.loop-at-test.true c.in_ok-p.ensures in
    marking_goes c.loop-at.invariant c.loop-at-test.true c.in_ok-p.ensures c.if-not-rises.ensures c.begin_all.auto.begins (omega (arith, places-length c.args.net.now c.args.places.now)) c.begin_all.ensures

pub returns : goal.returns
returns c = marking_ends c.loop-at.invariant c.loop-at-test.false c.begin_all-2.ensures
