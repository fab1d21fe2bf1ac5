-- `colours::values::fits_range` meets its contract: the test of the bits, then the digit in the range.
use Rattle.kinds.proofs.Taking.{tests}
use Rattle.colours.proofs.Valuing.{value-digit}
use Rattle.colours.proofs.values.fits_range.Goals as goal

pub returns : goal.returns
returns c = value-digit c.args.p c.args.range c.digit_of.result c.if-p-ge16384.false c.digit_of.ensures.0 c.digit_in.ensures

pub returns-then-p-ge16384 : goal.returns-then-p-ge16384
returns-then-p-ge16384 c = search tests
