-- `offers::lines::put_rows` meets its contract: the loop keeps the lines that are left.
use mathlib.Core.Path.{◌≡◌}
use Prim.Native.Nat.{◌+◌, ◌*◌, ◌-◌, ◌≤◌}
use native.Mathlib.Nat.{suc-mul}
use native.Mathlib.Numerals.{add-one}
use native.Mathlib.Omega.{arith}
use lib.ListN.{length}
use borrow.Author.Rules.{rules}
use Rattle.offers.proofs.Bindings.{lines_all, lines_inside, lines_none, lines_again}
use Rattle.offers.proofs.lines.put_rows.Goals as goal

pub loop-i-init : goal.loop-i-init
loop-i-init c = let z : 0 * c.args.width ≡ 0 = omega arith in let m : c.args.n - 0 ≡ c.args.n = omega arith in rw (z, m) (lines_all c.requires)

pub overflow_mul-from : goal.overflow_mul-from
overflow_mul-from c = let t = c.loop-i-test.true in let h = lines_inside c.loop-i.invariant (omega arith) in let g = c.well_formed.1.1.0 in omega arith

pub overflow_add-from : goal.overflow_add-from
overflow_add-from c = let t = c.loop-i-test.true in let h = lines_inside c.loop-i.invariant (omega arith) in let g = c.well_formed.1.1.0 in omega arith

pub slice_bounds-put_row-end : goal.slice_bounds-put_row-end
slice_bounds-put_row-end c = let t = c.loop-i-test.true in lines_inside c.loop-i.invariant (omega arith)

pub loop-i-preserved : goal.loop-i-preserved
loop-i-preserved c =
    let t = c.loop-i-test.true in
    let i = c.loop-i.i in
    let a = c.args in
    let m : (i + 1) * a.width ≡ i * a.width + a.width = omega (arith, add-one i, suc-mul i a.width) in
    let l : a.n - (i + 1) ≡ a.n - i - 1 = omega arith in
    rw (m, l) (lines_again (a.n - i) c.loop-i.invariant (omega arith) c.put_row-next.ensures)

pub returns : goal.returns
returns c = let h = c.loop-i-test.false in lines_none c.loop-i.invariant (omega arith)
