-- `text::put::put_bytes` meets its contract: the loop keeps what is left to put.
use native.Mathlib.Numerals.{add-one}
use lib.ListN.{drop_of_length-le}
use lib.Seq.{drop-cons}
use Rattle.text.proofs.Putting.{left_after, left-none}
use Rattle.text.proofs.put.put_bytes.Goals as goal

pub loop-b-preserved : goal.loop-b-preserved
loop-b-preserved c = rw (add-one) (left_after (rw (drop-cons c.args.text.now c.loop-b.b-index 0 c.loop-b-test.true) at c.loop-b.invariant) c.put_byte-next.ensures)

pub returns : goal.returns
returns c = left-none (rw (drop_of_length-le c.args.text.now c.loop-b-test.false) at c.loop-b.invariant)
