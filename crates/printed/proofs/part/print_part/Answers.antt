-- `printed::part::print_part` meets its contract: the tests of `texts` in their order.
use mathlib.Core.Path.{sym}
use native.Mathlib.Omega.{arith}
use lib.Seq.{length-take-le}
use Rattle.printed.proofs.Parts.{told-long, told-spare, told-words}
use Rattle.printed.proofs.part.print_part.Goals as goal

pub returns-then-bytes-gt65536 : goal.returns-then-bytes-gt65536
returns-then-bytes-gt65536 c = let t = told-long _ c.if-bytes-gt65536.true c.refusal_part.ensures in record { out_after = t.buffer; written_value = t.written; more_value = t.more }

pub returns-then-bytes-ne0 : goal.returns-then-bytes-ne0
returns-then-bytes-ne0 c = let t = told-spare _ c.if-bytes-gt65536.false c.if-bytes-ne0.true c.refusal_part-then-bytes-ne0.ensures in record { out_after = t.buffer; written_value = t.written; more_value = t.more }

pub slice_bounds-words_part-end : goal.slice_bounds-words_part-end
slice_bounds-words_part-end c = let e = c.words_of_bytes-n.ensures.value in sym (length-take-le _ _ (omega arith))

pub returns : goal.returns
returns c = let t = told-words _ _ c.if-bytes-gt65536.false c.if-bytes-ne0.false c.words_of_bytes-n.ensures.value c.words_of_bytes-n.ensures.words_after c.words_part.ensures in record { out_after = t.buffer; written_value = t.written; more_value = t.more }
