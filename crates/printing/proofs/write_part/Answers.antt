-- `printing::write_part` meets its contract: what is written of the buffer is no more than it has.
use mathlib.Core.Path.{sym}
use native.Mathlib.Omega.{arith}
use lib.Seq.{length-take-le}
use Rattle.printing.proofs.write_part.Goals as goal

pub slice_bounds-write_all-end : goal.slice_bounds-write_all-end
slice_bounds-write_all-end c = let e = c.whole_part-part.ensures.written_bound in let k = c.whole_part-part.auto.out in sym (length-take-le _ _ (omega arith))
