-- `rests::keep::keep_rests` meets its contract: the loop keeps that the numbers of the transitions so far stand in the table.
use native.Mathlib.Omega.{arith}
use borrow.Author.Rules.{rules}
use Rattle.rests.proofs.Chosen.{known-number, few, inside, room}
use Rattle.rests.proofs.Resting.{rests_next, rests_more}
use Rattle.rests.proofs.keep.keep_rests.Goals as goal

pub offset_bounds-net-transitions : goal.offset_bounds-net-transitions
offset_bounds-net-transitions c = let K = c.requires.net_known in let h = inside K (known-number K c.loop-t-test.true) in search rules

pub bounds-net-transitions : goal.bounds-net-transitions
bounds-net-transitions c = let K = c.requires.net_known in inside K (known-number K c.loop-t-test.true)

pub overflow_add-from : goal.overflow_add-from
overflow_add-from c = let K = c.requires.net_known in let f = few K (known-number K c.loop-t-test.true) in search rules

pub offset_bounds-parts-from : goal.offset_bounds-parts-from
offset_bounds-parts-from c = let K = c.requires.net_known in let f = few K (known-number K c.loop-t-test.true) in search rules

pub slice_bounds-keep_rest-end : goal.slice_bounds-keep_rest-end
slice_bounds-keep_rest-end c = let K = c.requires.net_known in room K (known-number K c.loop-t-test.true)

pub slice_bounds-keep_rest-end-in-loop-t : goal.slice_bounds-keep_rest-end-in-loop-t
slice_bounds-keep_rest-end-in-loop-t c = let K = c.requires.net_known in let f = few K (known-number K c.loop-t-test.true) in let l = c.loop-t.invariant.long in omega arith

pub keep_rest-requires : goal.keep_rest-requires
keep_rest-requires c = let n = rests_next c.requires.net_known c.loop-t-test.true c.loop-t.invariant in record { restable = n.0; row_len = n.1 }

pub loop-t-preserved : goal.loop-t-preserved
loop-t-preserved c = let K = c.requires.net_known in rests_more c.loop-t.invariant (few K (known-number K c.loop-t-test.true)) c.keep_rest.ensures
