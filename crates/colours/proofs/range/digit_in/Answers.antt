-- `colours::range::digit_in` meets its contract: the digit of the low end, then that of the high end.
use Rattle.colours.proofs.Ranging.{digit_below, digit-inside}
use native.Mathlib.Omega.{arith}
use Rattle.colours.proofs.range.digit_in.Goals as goal

pub returns-then-d-digit_of : goal.returns-then-d-digit_of
returns-then-d-digit_of c = digit_below c.args.range c.args.d c.requires c.digit_of.ensures.0 c.digit_of.ensures.1 (omega arith)

pub returns : goal.returns
returns c = digit-inside c.args.range c.args.d c.requires c.digit_of.ensures.0 c.digit_of.ensures.1 (omega arith) c.digit_of-2.ensures.0 c.digit_of-2.ensures.1
