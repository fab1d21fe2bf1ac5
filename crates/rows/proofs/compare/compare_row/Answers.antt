-- `rows::compare::compare_row` meets its contract: the loop of `Alike`.
use Rattle.rows.proofs.Alike.{alike_start, alike_under, alike_over, alike_turn, alike_end, told}
use native.Mathlib.Omega.{arith}
use borrow.Author.Rules.{rules}
use Rattle.rows.proofs.compare.compare_row.Goals as goal

pub loop-j-init : goal.loop-j-init
loop-j-init c = alike_start _ _ _ (search rules)

-- the first value that differs is less
pub returns-then-less : goal.returns-then-less
returns-then-less c =
    alike_under c.loop-j.invariant c.loop-j-test.true (told c.signed-x.ensures c.signed-y.ensures c.less.ensures c.if-less.true)

-- it is more
pub returns-then-less-2 : goal.returns-then-less-2
returns-then-less-2 c =
    alike_over c.loop-j.invariant c.loop-j-test.true (told c.signed-y.ensures c.signed-x.ensures c.less-in-loop-j.ensures c.if-less-2.true)

pub loop-j-preserved : goal.loop-j-preserved
loop-j-preserved c =
    let x = c.signed-x.ensures in
    let y = c.signed-y.ensures in
    alike_turn c.loop-j.invariant c.loop-j-test.true (told x y c.less.ensures c.if-less.false) (told y x c.less-in-loop-j.ensures c.if-less-2.false)

pub returns : goal.returns
returns c = alike_end c.loop-j.invariant (omega arith)
