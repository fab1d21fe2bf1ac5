-- `patch::entry::write_values` meets its contract: the loop of `Writing` over the digits of the code, the last one first.
use Rattle.patch.proofs.Writing.{filling_turn, filling_end}
use Rattle.patch.proofs.entry.write_values.Goals as goal

pub loop-j-preserved : goal.loop-j-preserved
loop-j-preserved c = filling_turn c.loop-j.invariant c.loop-j-test.true c.requires c.digit_word.ensures

pub returns : goal.returns
returns c = filling_end c.loop-j.invariant c.loop-j-test.false
