-- `steps::step::fire_keys` meets its contract: each return is a rule of `Stepped`.
use native.Mathlib.Omega.{arith}
use Rattle.steps.proofs.Stepped.{step-over, step-more, step-long, step-words-over, movable, writable, step-written}
use Rattle.steps.proofs.step.fire_keys.Goals as goal

pub returns-in_default : goal.returns-in_default
returns-in_default c = step-over c.args.next.now c.in_default.ensures

pub overflow_add-length : goal.overflow_add-length
overflow_add-length c = let n = c.in-Some.ensures.measured.new-short in let g = c.well_formed in omega arith

pub overflow_sub-length : goal.overflow_sub-length
overflow_sub-length c = step-more c.in-Some.ensures c.args.next.now c.requires

pub returns-then-next-length : goal.returns-then-next-length
returns-then-next-length c = step-long c.in-Some.ensures c.args.next.now c.if-next-length.true

pub returns-then-length-gt16384 : goal.returns-then-length-gt16384
returns-then-length-gt16384 c = step-words-over c.in-Some.ensures c.args.next.now c.if-next-length.false c.if-length-gt16384.true

pub move_begins-requires : goal.move_begins-requires
move_begins-requires c = movable c.in-Some.ensures c.args.next.now c.requires

pub write_listed-requires : goal.write_listed-requires
write_listed-requires c = writable c.in-Some.ensures c.args.next.now c.if-next-length.false c.requires

pub returns : goal.returns
returns c = step-written c.in-Some.ensures c.args.next.now c.if-next-length.false c.if-length-gt16384.false c.move_begins.ensures c.write_listed.ensures
