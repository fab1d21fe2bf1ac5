-- `colours::range::in_range` meets its contract: a value of 14 bits by its digit, any other is in no range.
use mathlib.Core.Bool.{not}
use mathlib.Core.Path.{ap}
use mir.Facts.{to_z-of_z}
use Rattle.colours.proofs.Ranging.{range_past, range-digit}
use Rattle.colours.proofs.range.in_range.Goals as goal

pub returns-then-not-within : goal.returns-then-not-within
returns-then-not-within c = range_past c.args.range c.args.z (simp (to_z-of_z c.ranges.z) at c.within.ensures) (ap not c.if-not-within.true)

pub returns : goal.returns
returns c = range-digit c.args.range c.args.z (simp (to_z-of_z c.ranges.z) at c.within.ensures) (ap not c.if-not-within.false) c.digit_of.result (simp (to_z-of_z c.ranges.z) at c.value_word.ensures) c.digit_of.ensures.0 c.digit_in.ensures
