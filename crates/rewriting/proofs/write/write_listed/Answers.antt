-- `rewriting::write::write_listed` meets its contract: the loop of `Writing`, a row at a time.
use mathlib.Core.Path.{◌∙◌}
use Prim.Native.Nat.{◌+◌, ◌-◌, ◌≤◌}
use lib.ListN.{length, get_or}
use native.Mathlib.Omega.{arith}
use Rattle.changes.proofs.Rows.{no_row}
use Rattle.rewriting.proofs.Writing.{writing_inside, writing_there, writing_room, writing_turn, writing_last, writing_end}
use Rattle.rewriting.proofs.write.write_listed.Goals as goal

pub copy_words-requires : goal.copy_words-requires
copy_words-requires c =
    let i = writing_inside c.requires c.loop-i.invariant c.loop-i-test.true in
    let r = writing_room c.requires c.loop-i.invariant c.loop-i-test.true in
    let l = c.loop-i.invariant.done.long in
    (i.0, omega (arith, i.1), omega arith)

pub overflow_sub-row : goal.overflow_sub-row
overflow_sub-row c = (writing_inside c.requires c.loop-i.invariant c.loop-i-test.true).0

pub overflow_add-at : goal.overflow_add-at
overflow_add-at c =
    let r : c.loop-i.at + ((get_or c.args.rows.now c.loop-i.i no_row).at - c.loop-i.from) ≤ length c.args.next.now = omega (arith, writing_room c.requires c.loop-i.invariant c.loop-i-test.true) in
    let g = c.well_formed in
    omega arith

pub write_key-at-requires : goal.write_key-at-requires
write_key-at-requires c =
    let w = c.requires in
    let h = c.loop-i-test.true in
    let r = writing_room c.requires c.loop-i.invariant c.loop-i-test.true in
    let l = c.loop-i.invariant.done.long in
    let k = c.copy_words.auto.next in
    record { places_fit = w.fits; key_in_bounds = writing_there c.requires c.loop-i.invariant c.loop-i-test.true; count_in_bounds = omega arith }

pub overflow_add-from : goal.overflow_add-from
overflow_add-from c =
    let i : (get_or c.args.rows.now c.loop-i.i no_row).at + (get_or c.args.rows.now c.loop-i.i no_row).old ≤ length c.args.marking.now = (writing_inside c.requires c.loop-i.invariant c.loop-i-test.true).1 in
    let g = c.well_formed in
    omega arith

pub loop-i-preserved : goal.loop-i-preserved
loop-i-preserved c = writing_turn c.requires c.loop-i.invariant c.loop-i-test.true c.copy_words.new.next c.write_key-at.new.next c.copy_words.ensures c.write_key-at.ensures.0 (c.write_key-at.auto.next ∙ c.copy_words.auto.next ∙ c.loop-i.invariant.done.long) c.write_key-at.ensures.1

pub copy_words-requires-2 : goal.copy_words-requires-2
copy_words-requires-2 c = let r = writing_last c.requires c.loop-i.invariant c.loop-i-test.false in let l = c.loop-i.invariant.done.long in (r.0, omega arith, omega (arith, r.1))

pub overflow_sub-result : goal.overflow_sub-result
overflow_sub-result c = (writing_last c.requires c.loop-i.invariant c.loop-i-test.false).0

pub returns : goal.returns
returns c = writing_end c.requires c.loop-i.invariant c.loop-i-test.false _ c.copy_words-2.ensures
