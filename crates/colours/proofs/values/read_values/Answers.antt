-- `colours::values::read_values` meets its contract: the loop of `Valuing`.
use Rattle.std.proofs.lemmas.Result.{err_from_is_err_and}
use Rattle.colours.proofs.Valuing.{passing_start, passing_refused, passing_unfit, passing_turn, passing_end}
use native.Mathlib.Omega.{arith}
use Rattle.colours.proofs.values.read_values.Goals as goal

pub loop-i-init : goal.loop-i-init
loop-i-init c = passing_start _ _ _ _ _

pub returns-in_err-p : goal.returns-in_err-p
returns-in_err-p c = let p = err_from_is_err_and c.from_residual.result c.from_residual.ensures.1 in rw (p.1, p.2) (passing_refused c.loop-i.invariant c.loop-i-test.true c.in_err-p.ensures)

pub returns-then-not-fits_range : goal.returns-then-not-fits_range
returns-then-not-fits_range c = passing_unfit c.loop-i.invariant c.loop-i-test.true c.in_ok-p.ensures c.if-not-fits_range.ensures

pub loop-i-preserved : goal.loop-i-preserved
loop-i-preserved c = passing_turn c.loop-i.invariant c.loop-i-test.true c.in_ok-p.ensures c.if-not-fits_range.ensures

pub returns : goal.returns
returns c = passing_end c.loop-i.invariant (omega arith)
