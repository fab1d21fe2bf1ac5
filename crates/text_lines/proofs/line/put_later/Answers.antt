-- `text_lines::line::put_later` meets its contract: the loop keeps what is left of the line.
use Rattle.text_lines.proofs.Lines.{later_again, later-ends}
use Rattle.text_lines.proofs.line.put_later.Goals as goal

pub loop-w-preserved : goal.loop-w-preserved
loop-w-preserved c = later_again c.args.later.now c.loop-w-test.true c.loop-w.invariant c.put_byte-next.ensures c.put_value-next.ensures

pub returns : goal.returns
returns c = later-ends c.args.later.now c.loop-w-test.false c.loop-w.invariant c.put_byte.ensures
