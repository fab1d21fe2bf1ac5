-- `printed::part::words_part` meets its contract: the call split decides, and the net is cut where the words after it begin.
use mathlib.Core.Path.{sym}
use native.Mathlib.Omega.{arith}
use lib.Seq.{length-take-le}
use Rattle.printed.proofs.Parts.{words-refused, words_split, split_accepts, split_part}
use Rattle.printed.proofs.part.words_part.Goals as goal

pub returns-then-number-ne0 : goal.returns-then-number-ne0
returns-then-number-ne0 c = words-refused _ c.split-marking.ensures c.if-number-ne0.true c.refusal_part.ensures

pub overflow_sub-end : goal.overflow_sub-end
overflow_sub-end c = (words_split _ _ _ _ c.split-marking.ensures c.if-number-ne0.false).inside

pub slice_bounds-net_part-end : goal.slice_bounds-net_part-end
slice_bounds-net_part-end c = let s = words_split _ _ _ _ c.split-marking.ensures c.if-number-ne0.false in let h = s.inside in sym (length-take-le _ _ (omega arith))

pub net_part-requires : goal.net_part-requires
net_part-requires c = split_accepts (words_split _ _ _ _ c.split-marking.ensures c.if-number-ne0.false)

pub returns : goal.returns
returns c = split_part (words_split _ _ _ _ c.split-marking.ensures c.if-number-ne0.false) c.net_part.ensures
