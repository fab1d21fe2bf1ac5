-- `colours::code::with_digit` meets its contract: `word-behind`.
use Rattle.colours.proofs.Codes.{word-behind}
use Rattle.colours.proofs.code.with_digit.Goals as goal

pub returns : goal.returns
returns c = word-behind _ c.digit_of.ensures.0 c.digit_of.ensures.1
